use Rattle.std.proofs.Common.{◌≡◌, sym, ap, ◌∙◌}
use Rattle.std.specs.Prelude.{Result, Ok, Err, IfOk, option_and_then}
use Rattle.std.proofs.lemmas.List.Quantifiers.{position-Some}
use Rattle.config_file.specs.Lines.{is_sign, key_at, key_of}
use Rattle.config_file.proofs.Signs.{key_inside}
use Rattle.config_file.proofs.line.key_of.Goals as goal

along : {E A : Type 0} (r : Result A E) (x y : A) → x ≡ y → IfOk r (λ made. made ≡ x) → IfOk r (λ made. made ≡ y)
along (Ok made) x y same is = is ∙ same
along (Err e) x y same is = tt

pub key_at-requires : goal.key_at-requires
key_at-requires c =
    let there = position-Some is_sign c.args.line.now c.in-Some.at 0 (sym c.in-Some.ensures) in
    record { within = there.0; sign = there.1 }

pub returns-in-Some : goal.returns-in-Some
returns-in-Some c =
    along c.key_at.result (key_at c.args.line.now c.in-Some.at) (key_of c.args.place c.args.line.now)
    (sym (key_inside c.args.place c.args.line.now c.in_default.not-Outside ∙ ap (option_and_then (key_at c.args.line.now)) (sym c.in-Some.ensures)))
    c.key_at.ensures

pub returns-in-None : goal.returns-in-None
returns-in-None c =
    sym (key_inside c.args.place c.args.line.now c.in_default.not-Outside ∙ ap (option_and_then (key_at c.args.line.now)) (sym c.in-None.ensures))
