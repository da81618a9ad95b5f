use Rattle.std.proofs.Common.{◌++◌, ◌∷◌, [], ◌==◌, sym, ap, ◌∙◌, append_assoc, append-nil}
use Rattle.std.proofs.lemmas.Str.{IsUtf8-past_char, chars_past_char}
use Rattle.std.proofs.StrCases.{chars_of_empty}
use Rattle.std.specs.Str.{chars}
use Rattle.std.specs.Str.Iter.{chars_rest}
use Rattle.sigv4.specs.Headers.{squeezed}
use Rattle.sigv4.proofs.Squeezed.{drops, keeps}
use Rattle.sigv4.proofs.header_values.canonical_value.Goals as goal

pub loop-c-preserved-then-repeats_space : goal.loop-c-preserved-then-repeats_space
loop-c-preserved-then-repeats_space c =
    let utf8 = c.loop-c.invariant.0 in
    let seam = c.in-Some.ensures.steps.0 in
    let made = c.loop-c.made in
    let behind = c.loop-c.behind_space in (
      IsUtf8-past_char _ _ _ utf8 seam,
      ap (λ s. made ++ s) (drops behind c.in-Some.c (chars (chars_rest c.next.new.self)) (sym c.repeats_space.ensures ∙ c.if-repeats_space.true))
          ∙ ap (λ cs. made ++ squeezed behind cs) (sym (chars_past_char _ _ _ utf8 seam)) ∙ c.loop-c.invariant.1,
    )

pub loop-c-preserved : goal.loop-c-preserved
loop-c-preserved c =
    let utf8 = c.loop-c.invariant.0 in
    let seam = c.in-Some.ensures.steps.0 in
    let made = c.loop-c.made in
    let behind = c.loop-c.behind_space in
    let rest = squeezed (c.in-Some.c == 32) (chars (chars_rest c.next.new.self)) in (
      IsUtf8-past_char _ _ _ utf8 seam,
      ap (λ s. s ++ rest) c.in_ok-push.ensures.ok ∙ append_assoc made (c.in-Some.c ∷ []) rest
          ∙ ap (λ s. made ++ s) (keeps behind c.in-Some.c (chars (chars_rest c.next.new.self)) (sym c.repeats_space.ensures ∙ c.if-repeats_space.false))
          ∙ ap (λ cs. made ++ squeezed behind cs) (sym (chars_past_char _ _ _ utf8 seam)) ∙ c.loop-c.invariant.1,
    )

pub returns : goal.returns
returns c =
    let nil = chars_of_empty _ c.in-None.ensures.steps.0.0 in
    sym (append-nil c.loop-c.made) ∙ ap (λ cs. c.loop-c.made ++ squeezed c.loop-c.behind_space cs) (sym nil) ∙ c.loop-c.invariant.1
