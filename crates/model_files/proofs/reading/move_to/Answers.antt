use Rattle.std.proofs.Common.{◌≡◌, subst, ap, ◌∙◌}
use Rattle.std.proofs.lemmas.Fmt.{IsAscii-decimal}
use Rattle.std.proofs.lemmas.Str.{chars-IsAscii}
use Rattle.std.specs.Fmt.{decimal}
use Rattle.std.specs.Str.{chars}
use Rattle.model_files.specs.Faults.{moved, IsFault}
use Rattle.model_files.proofs.reading.move_to.Goals as goal

pub returns-in-Ok : goal.returns-in-Ok
returns-in-Ok c =
    let plain : chars c.as_str.result.now ≡ decimal c.args.at =
    ap chars (c.as_str.ensures.value ∙ c.in-Ok.ensures.ok) ∙ chars-IsAscii (decimal c.args.at) (IsAscii-decimal c.args.at c.ranges.at.fits) in
    subst (λ key. IsFault c.move_below.result (moved key c.args.fault)) plain c.move_below.ensures.value
