use Rattle.std.proofs.Common.{◌++◌, ◌∷◌, [], map, sym, ap, ◌∙◌, append_assoc, append-nil}
use Rattle.std.proofs.lemmas.Str.{IsUtf8-past_char, chars_past_char}
use Rattle.std.proofs.StrCases.{chars_of_empty}
use Rattle.std.specs.Str.{chars}
use Rattle.std.specs.Str.Iter.{chars_rest}
use Rattle.out_format.specs.Sections.{shown_character}
use Rattle.out_format.proofs.shown_cell.shown_text.Goals as goal

pub loop-c-preserved : goal.loop-c-preserved
loop-c-preserved c =
    let utf8 = c.loop-c.invariant.0 in
    let seam = c.in-Some.ensures.steps.0 in
    let made = c.loop-c.made in
    let rest = map shown_character (chars (chars_rest c.next.new.self)) in (
      IsUtf8-past_char _ _ _ utf8 seam,
      ap (λ s. s ++ rest) (c.in_ok-push.ensures.ok ∙ ap (λ b. made ++ b ∷ []) c.shown_character.ensures)
          ∙ append_assoc made (shown_character c.in-Some.c ∷ []) rest
          ∙ ap (λ cs. made ++ map shown_character cs) (sym (chars_past_char _ _ _ utf8 seam)) ∙ c.loop-c.invariant.1,
    )

pub returns : goal.returns
returns c =
    let nil = chars_of_empty _ c.in-None.ensures.steps.0.0 in
    sym (append-nil c.loop-c.made) ∙ ap (λ cs. c.loop-c.made ++ map shown_character cs) (sym nil) ∙ c.loop-c.invariant.1
