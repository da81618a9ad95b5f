use Rattle.std.proofs.Common.{◌∷◌, sym, ap, ◌∙◌}
use Rattle.std.proofs.lemmas.Bool.{cond-true, cond-false}
use Rattle.std.proofs.lemmas.Str.{IsUtf8-past_char, chars_past_char}
use Rattle.std.proofs.StrCases.{chars_of_empty}
use Rattle.std.specs.Str.{chars}
use Rattle.std.specs.Str.Iter.{chars_rest}
use Rattle.shorthand.specs.Grammar.{begins_with}
use Rattle.texts.specs.Blanks.{is_blank, without_first_blanks}
use Rattle.shape_values.proofs.text_values.begins_object.Goals as goal

pub returns-then-not-is_blank : goal.returns-then-not-is_blank
returns-then-not-is_blank c =
    let rest = chars (chars_rest c.next.new.self) in
    let cut = chars_past_char _ _ _ c.loop-c.invariant.0 c.in-Some.ensures.steps.0 in
    sym (ap (λ cs. begins_with 123 (without_first_blanks cs)) cut
    ∙ ap (begins_with 123) (cond-false (is_blank c.in-Some.c) (without_first_blanks rest) (c.in-Some.c ∷ rest) (sym c.is_blank.ensures ∙ c.if-not-is_blank.true))) ∙ c.loop-c.invariant.1

pub loop-c-preserved : goal.loop-c-preserved
loop-c-preserved c =
    let rest = chars (chars_rest c.next.new.self) in
    let utf8 = c.loop-c.invariant.0 in
    let seam = c.in-Some.ensures.steps.0 in
    let cut = chars_past_char _ _ _ utf8 seam in (
      IsUtf8-past_char _ _ _ utf8 seam,
      sym (ap (λ cs. begins_with 123 (without_first_blanks cs)) cut
          ∙ ap (begins_with 123) (cond-true (is_blank c.in-Some.c) (without_first_blanks rest) (c.in-Some.c ∷ rest) (sym c.is_blank.ensures ∙ c.if-not-is_blank.false))) ∙ c.loop-c.invariant.1,
    )

pub returns : goal.returns
returns c = ap (λ cs. begins_with 123 (without_first_blanks cs)) (sym (chars_of_empty _ c.in-None.ensures.steps.0.0)) ∙ c.loop-c.invariant.1
