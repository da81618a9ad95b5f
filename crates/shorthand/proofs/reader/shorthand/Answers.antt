use Rattle.std.proofs.Common.{◌≡◌, ◌+◌, [], length, refl, sym, ap, subst, ◌∙◌, arith}
use Rattle.std.specs.Prelude.{encode_utf8 as encode}
use Rattle.std.proofs.lemmas.List.{length-append, nil_from_length}
use Rattle.std.proofs.lemmas.Str.{IsUtf8-past_char, chars_past_char, length-encode}
use Rattle.std.proofs.StrCases.{chars_of_empty}
use Rattle.std.specs.Str.{chars, IsUtf8}
use Rattle.std.specs.Str.Iter.{chars_rest}
use Rattle.shorthand.proofs.Passed.{IsPassed, starts, passes, stop_fits, stop_answer, refusal_of, no_tree_of, same_fault, only_tree, found, missed}
use Rattle.shorthand.proofs.reader.shorthand.Goals as goal

pub fault_at-requires : goal.fault_at-requires
fault_at-requires c =
    let next = chars_past_char _ _ _ c.loop-c.invariant.0 c.in-Some.ensures.steps.0 in
    stop_fits _ _ _ _ _ _ _ c.loop-c.invariant.1 next c.in-Err.ensures.fault

pub returns-in-Err-clause-only : goal.returns-in-Err-clause-only
returns-in-Err-clause-only c =
    let next = chars_past_char _ _ _ c.loop-c.invariant.0 c.in-Some.ensures.steps.0 in
    no_tree_of _ _ (stop_answer _ _ _ _ _ _ _ _ c.loop-c.invariant.1 next c.in-Err.ensures.fault c.fault_at.ensures)

pub returns-in-Err-clause-refused : goal.returns-in-Err-clause-refused
returns-in-Err-clause-refused c =
    let next = chars_past_char _ _ _ c.loop-c.invariant.0 c.in-Some.ensures.steps.0 in
    refusal_of _ _ (stop_answer _ _ _ _ _ _ _ _ c.loop-c.invariant.1 next c.in-Err.ensures.fault c.fault_at.ensures)

pub returns-in-Err-clause-fault : goal.returns-in-Err-clause-fault
returns-in-Err-clause-fault c =
    let next = chars_past_char _ _ _ c.loop-c.invariant.0 c.in-Some.ensures.steps.0 in
    same_fault _ _ (stop_answer _ _ _ _ _ _ _ _ c.loop-c.invariant.1 next c.in-Err.ensures.fault c.fault_at.ensures)

pub loop-c-init : goal.loop-c-init
loop-c-init c =
    let is : chars_rest c.into_iter-c-iterator.result ≡ c.as_str.result.now = ap chars_rest c.into_iter-c-iterator.ensures.into_iter_gives ∙ c.chars-c-items.ensures.rest in (
      subst IsUtf8 (sym is) c.as_str.utf8,
      subst (λ r. IsPassed c.args.text.now (chars_rest c.into_iter-c-iterator.result) r 0) (sym c.start_of_text-reader.ensures) (starts c.args.text.now _ (sym c.as_str.ensures.value ∙ ap chars (sym is))),
      omega (arith, ap length (is ∙ c.as_str.ensures.bytes)),
    )

pub loop-c-preserved : goal.loop-c-preserved
loop-c-preserved c =
    let utf8 = c.loop-c.invariant.0 in
    let seam = c.in-Some.ensures.steps.0 in
    let wide = length-encode c.in-Some.c in (
      IsUtf8-past_char _ _ _ utf8 seam,
      subst (λ n. IsPassed c.args.text.now (chars_rest c.next.new.self) c.in-Ok.next (c.loop-c.at + n)) (wide ∙ sym c.len_utf8-at.ensures.value)
          (passes _ _ _ _ _ _ _ c.loop-c.invariant.1 (chars_past_char _ _ _ utf8 seam) c.in-Ok.ensures.read),
      omega (arith, c.loop-c.invariant.2, ap length seam, length-append (encode c.in-Some.c) (chars_rest c.next.new.self), wide, c.len_utf8-at.ensures.value),
    )

pub returns-in-Ok-finish-clause-found : goal.returns-in-Ok-finish-clause-found
returns-in-Ok-finish-clause-found c =
    let bytes = nil_from_length _ c.in-None.ensures.steps.0.0 in
    let end : IsPassed c.args.text.now [] c.loop-c.reader c.loop-c.at = subst (λ b. IsPassed c.args.text.now b c.loop-c.reader c.loop-c.at) bytes c.loop-c.invariant.1 in
    found _ _ _ _ end (chars_of_empty [] refl) c.in-Ok-finish.ensures.read

pub returns-in-Ok-finish-clause-only : goal.returns-in-Ok-finish-clause-only
returns-in-Ok-finish-clause-only c =
    let bytes = nil_from_length _ c.in-None.ensures.steps.0.0 in
    let end : IsPassed c.args.text.now [] c.loop-c.reader c.loop-c.at = subst (λ b. IsPassed c.args.text.now b c.loop-c.reader c.loop-c.at) bytes c.loop-c.invariant.1 in
    only_tree _ _ (found _ _ _ _ end (chars_of_empty [] refl) c.in-Ok-finish.ensures.read)

pub returns-in-Ok-finish-clause-fault : goal.returns-in-Ok-finish-clause-fault
returns-in-Ok-finish-clause-fault c =
    let bytes = nil_from_length _ c.in-None.ensures.steps.0.0 in
    let end : IsPassed c.args.text.now [] c.loop-c.reader c.loop-c.at = subst (λ b. IsPassed c.args.text.now b c.loop-c.reader c.loop-c.at) bytes c.loop-c.invariant.1 in
    λ at has. has.no_tree _ (found _ _ _ _ end (chars_of_empty [] refl) c.in-Ok-finish.ensures.read)

pub returns-in-Err-finish-clause-only : goal.returns-in-Err-finish-clause-only
returns-in-Err-finish-clause-only c =
    let bytes = nil_from_length _ c.in-None.ensures.steps.0.0 in
    let end : IsPassed c.args.text.now [] c.loop-c.reader c.loop-c.at = subst (λ b. IsPassed c.args.text.now b c.loop-c.reader c.loop-c.at) bytes c.loop-c.invariant.1 in
    no_tree_of _ _ (missed _ _ _ _ _ end (chars_of_empty [] refl) c.in-Err-finish.ensures.fault c.fault_at-in-Err-finish.ensures)

pub returns-in-Err-finish-clause-refused : goal.returns-in-Err-finish-clause-refused
returns-in-Err-finish-clause-refused c =
    let bytes = nil_from_length _ c.in-None.ensures.steps.0.0 in
    let end : IsPassed c.args.text.now [] c.loop-c.reader c.loop-c.at = subst (λ b. IsPassed c.args.text.now b c.loop-c.reader c.loop-c.at) bytes c.loop-c.invariant.1 in
    refusal_of _ _ (missed _ _ _ _ _ end (chars_of_empty [] refl) c.in-Err-finish.ensures.fault c.fault_at-in-Err-finish.ensures)

pub returns-in-Err-finish-clause-fault : goal.returns-in-Err-finish-clause-fault
returns-in-Err-finish-clause-fault c =
    let bytes = nil_from_length _ c.in-None.ensures.steps.0.0 in
    let end : IsPassed c.args.text.now [] c.loop-c.reader c.loop-c.at = subst (λ b. IsPassed c.args.text.now b c.loop-c.reader c.loop-c.at) bytes c.loop-c.invariant.1 in
    same_fault _ _ (missed _ _ _ _ _ end (chars_of_empty [] refl) c.in-Err-finish.ensures.fault c.fault_at-in-Err-finish.ensures)
