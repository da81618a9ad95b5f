use Rattle.std.proofs.Common.{refl}
use Rattle.std.proofs.lemmas.Fmt.{IsAscii-decimal}
use Rattle.std.proofs.lemmas.Str.{chars-IsAscii}
use Rattle.std.specs.Fmt.{decimal}
use Rattle.wait_plan.proofs.planning.place_of.Goals as goal

-- a decimal is ASCII, so its characters are its bytes
pub returns : goal.returns
returns c =
    let digits = chars-IsAscii (decimal c.args.at) (IsAscii-decimal c.args.at c.ranges.at.fits) in
    rw (c.in_ok-push_ascii-2.ensures.ok, c.in_ok-push_str.ensures.ok, c.in_ok-push_ascii.ensures.ok, c.new-place.ensures, c.as_str.ensures.value, c.in_ok-position.ensures.ok, digits) refl
