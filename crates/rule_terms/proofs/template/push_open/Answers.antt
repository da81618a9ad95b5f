use Rattle.std.proofs.Common.{◌++◌, ◌∷◌, [], map, sym, ap, ◌∙◌, append_assoc, append-nil}
use Rattle.std.proofs.lemmas.Str.{IsUtf8-past_char, chars_past_char}
use Rattle.std.proofs.StrCases.{chars_of_empty}
use Rattle.std.specs.Str.{chars}
use Rattle.std.specs.Str.Iter.{chars_rest}
use Rattle.rule_terms.specs.declared.template.Piece.TheVariants.{Char}
use Rattle.rule_terms.proofs.template.push_open.Goals as goal

pub loop-c-preserved : goal.loop-c-preserved
loop-c-preserved c =
    let utf8 = c.loop-c.invariant.0 in
    let seam = c.in-Some.ensures.steps.0 in
    let made = c.loop-c.pieces in
    let rest = map Char (chars (chars_rest c.next.new.self)) in (
      IsUtf8-past_char _ _ _ utf8 seam,
      ap (λ s. s ++ rest) c.in_ok-push-2.ensures.ok
          ∙ append_assoc made (Char c.in-Some.c ∷ []) rest
          ∙ ap (λ cs. made ++ map Char cs) (sym (chars_past_char _ _ _ utf8 seam)) ∙ c.loop-c.invariant.1,
    )

pub returns : goal.returns
returns c =
    let nil = chars_of_empty _ c.in-None.ensures.steps.0.0 in
    sym (append-nil c.loop-c.pieces) ∙ ap (λ cs. c.loop-c.pieces ++ map Char cs) (sym nil) ∙ c.loop-c.invariant.1
