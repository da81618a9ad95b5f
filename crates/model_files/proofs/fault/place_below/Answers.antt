use Rattle.std.proofs.Common.{◌≡◌, ap, ◌∙◌, arith, rules}
use Rattle.std.proofs.lemmas.Grind.{common_steps}
use Rattle.std.specs.Str.{chars}
use Rattle.texts.proofs.Texts.{chars_ascii}
use Rattle.model_files.specs.declared.fault.Place.TheVariants.{At}
use Rattle.model_files.specs.Faults.{below}
use Rattle.model_files.proofs.fault.place_below.Goals as goal

pub returns-clause-ascii : goal.returns-clause-ascii
returns-clause-ascii c = λ plain.
    let value : At c.push_str.new.self ≡ below (chars c.args.key.now) c.args.place.now = first_of (search rules, grind (arith, common_steps)) in
    value ∙ ap (λ k. below k c.args.place.now) (chars_ascii c.args.key.now plain)
