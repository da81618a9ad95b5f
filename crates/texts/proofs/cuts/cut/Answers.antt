use Rattle.std.proofs.Common.{◌≡◌, [], ◌∷◌, ◌++◌, sym, ap, ◌∙◌, append-nil, subst}
use Rattle.std.proofs.lemmas.Str.{IsUtf8-past_char, chars_past_char}
use Rattle.std.proofs.StrCases.{chars_of_empty}
use Rattle.std.specs.List.{slice_split}
use Rattle.std.specs.Str.{chars, IsUtf8}
use Rattle.std.specs.Str.Iter.{chars_rest}
use Rattle.texts.specs.Cut.{is_among}
use Rattle.texts.proofs.CutTexts.{with_start, starts, at_mark, at_other}
use Rattle.texts.proofs.cuts.cut.Goals as goal

pub loop-c-init : goal.loop-c-init
loop-c-init c =
    let p = is_among c.args.marks.now in
    let all : chars_rest c.into_iter-c-iterator.result ≡ c.args.text.now = ap chars_rest c.into_iter-c-iterator.ensures.into_iter_gives ∙ c.chars-c-items.ensures.rest in (
      subst IsUtf8 (sym all) c.utf8.text,
      ap (λ ps. ps ++ with_start c.new-part.result (slice_split p (chars (chars_rest c.into_iter-c-iterator.result)))) c.new-parts.ensures
          ∙ ap (λ start. with_start start (slice_split p (chars (chars_rest c.into_iter-c-iterator.result)))) c.new-part.ensures
          ∙ starts p (chars (chars_rest c.into_iter-c-iterator.result)) ∙ ap (λ bs. slice_split p (chars bs)) all,
    )

pub loop-c-preserved-then-is_mark : goal.loop-c-preserved-then-is_mark
loop-c-preserved-then-is_mark c =
    let utf8 = c.loop-c.invariant.0 in
    let seam = c.in-Some.ensures.steps.0 in
    let p = is_among c.args.marks.now in
    let rest = chars (chars_rest c.next.new.self) in (
      IsUtf8-past_char _ _ _ utf8 seam,
      ap (λ ps. ps ++ with_start c.new-part-then-is_mark.result (slice_split p rest)) c.in_ok-push.ensures.ok
          ∙ ap (λ start. (c.loop-c.parts ++ c.loop-c.part ∷ []) ++ with_start start (slice_split p rest)) c.new-part-then-is_mark.ensures
          ∙ at_mark p c.loop-c.parts c.loop-c.part c.in-Some.c rest (sym c.is_mark.ensures ∙ c.if-is_mark.true)
          ∙ ap (λ cs. c.loop-c.parts ++ with_start c.loop-c.part (slice_split p cs)) (sym (chars_past_char _ _ _ utf8 seam)) ∙ c.loop-c.invariant.1,
    )

pub loop-c-preserved : goal.loop-c-preserved
loop-c-preserved c =
    let utf8 = c.loop-c.invariant.0 in
    let seam = c.in-Some.ensures.steps.0 in
    let p = is_among c.args.marks.now in
    let rest = chars (chars_rest c.next.new.self) in (
      IsUtf8-past_char _ _ _ utf8 seam,
      ap (λ start. c.loop-c.parts ++ with_start start (slice_split p rest)) c.in_ok-push-2.ensures.ok
          ∙ at_other p c.loop-c.parts c.loop-c.part c.in-Some.c rest (sym c.is_mark.ensures ∙ c.if-is_mark.false)
          ∙ ap (λ cs. c.loop-c.parts ++ with_start c.loop-c.part (slice_split p cs)) (sym (chars_past_char _ _ _ utf8 seam)) ∙ c.loop-c.invariant.1,
    )

pub returns : goal.returns
returns c =
    let nil = chars_of_empty _ c.in-None.ensures.steps.0.0 in
    c.in_ok-push-3.ensures.ok ∙ ap (λ part. c.loop-c.parts ++ part ∷ []) (sym (append-nil c.loop-c.part))
    ∙ ap (λ cs. c.loop-c.parts ++ with_start c.loop-c.part (slice_split (is_among c.args.marks.now) cs)) (sym nil) ∙ c.loop-c.invariant.1
