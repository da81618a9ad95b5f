use Rattle.std.proofs.Common.{◌++◌, ◌∷◌, [], sym, ap, ◌∙◌, append_assoc, append-nil}
use Rattle.std.proofs.lemmas.Str.{IsUtf8-past_char, chars_past_char}
use Rattle.std.proofs.StrCases.{chars_of_empty}
use Rattle.std.specs.Char.{to_ascii_uppercase}
use Rattle.std.specs.Str.{chars}
use Rattle.std.specs.Str.Iter.{chars_rest}
use Rattle.out_format.specs.Text.{upper}
use Rattle.out_format.proofs.lines.write_upper.Goals as goal

pub loop-c-preserved : goal.loop-c-preserved
loop-c-preserved c =
    let utf8 = c.loop-c.invariant.0 in
    let seam = c.in-Some.ensures.steps.0 in
    let out = c.loop-c.out in
    let rest = upper (chars (chars_rest c.next.new.self)) in (
      IsUtf8-past_char _ _ _ utf8 seam,
      ap (λ s. s ++ rest) (c.in_ok-push.ensures.ok ∙ ap (λ b. out ++ b ∷ []) c.to_ascii_uppercase.ensures.value)
          ∙ append_assoc out (to_ascii_uppercase c.in-Some.c ∷ []) rest
          ∙ ap (λ cs. out ++ upper cs) (sym (chars_past_char _ _ _ utf8 seam)) ∙ c.loop-c.invariant.1,
    )

pub returns : goal.returns
returns c =
    let nil = chars_of_empty _ c.in-None.ensures.steps.0.0 in
    sym (append-nil c.loop-c.out) ∙ ap (λ cs. c.loop-c.out ++ upper cs) (sym nil) ∙ c.loop-c.invariant.1
