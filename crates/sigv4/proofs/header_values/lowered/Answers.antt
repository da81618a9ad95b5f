use Rattle.std.proofs.Common.{◌++◌, ◌∷◌, [], sym, ap, ◌∙◌, append_assoc, append-nil}
use Rattle.std.proofs.lemmas.Str.{IsUtf8-past_char, chars_past_char}
use Rattle.std.proofs.StrCases.{chars_of_empty}
use Rattle.std.specs.Char.{to_ascii_lowercase}
use Rattle.std.specs.Str.{chars}
use Rattle.std.specs.Str.Iter.{chars_rest}
use Rattle.sigv4.specs.Headers.{lowered}
use Rattle.sigv4.proofs.header_values.lowered.Goals as goal

pub loop-c-preserved : goal.loop-c-preserved
loop-c-preserved c =
    let utf8 = c.loop-c.invariant.0 in
    let seam = c.in-Some.ensures.steps.0 in
    let made = c.loop-c.made in
    let rest = lowered (chars (chars_rest c.next.new.self)) in (
      IsUtf8-past_char _ _ _ utf8 seam,
      ap (λ s. s ++ rest) (c.in_ok-push.ensures.ok ∙ ap (λ b. made ++ b ∷ []) c.to_ascii_lowercase.ensures.value)
          ∙ append_assoc made (to_ascii_lowercase c.in-Some.c ∷ []) rest
          ∙ ap (λ cs. made ++ lowered cs) (sym (chars_past_char _ _ _ utf8 seam)) ∙ c.loop-c.invariant.1,
    )

pub returns : goal.returns
returns c =
    let nil = chars_of_empty _ c.in-None.ensures.steps.0.0 in
    sym (append-nil c.loop-c.made) ∙ ap (λ cs. c.loop-c.made ++ lowered cs) (sym nil) ∙ c.loop-c.invariant.1
