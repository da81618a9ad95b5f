use Rattle.std.proofs.Common.{◌≡◌, Ok, Some, ap, ◌∙◌, sym, rules, encode_utf8_all, w64}
use Rattle.std.specs.Prelude.{FitsSigned}
use Rattle.std.proofs.lemmas.Int.{to_z-of_z}
use Rattle.typed_value.specs.declared.typed.Typed.TheVariants as typed
use Rattle.shape_values.specs.Scalars.{time_value}
use Rattle.shape_values.proofs.OneInstant.{instant_is}
use Rattle.shape_values.proofs.scalars.time_value.Goals as goal

pub returns-in-Some : goal.returns-in-Some
returns-in-Some c = λ instants tells.
    let bytes = encode_utf8_all c.args.text.now in
    let fits : FitsSigned w64 c.in-Some.instant = search rules in
    ap time_value (instant_is c.moments_are_unique.ensures (instants bytes) bytes c.in-Some.instant c.in-Some.ensures.found (tells bytes))
    ∙ ap (λ t. Ok (typed.Moment t)) (sym (to_z-of_z w64 c.in-Some.instant fits))
