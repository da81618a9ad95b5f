use Rattle.std.proofs.Common.{◌≡◌, List, Ok, Err, arith, sym}
use Rattle.std.proofs.lemmas.Result.{err_from_is_err_and}
use Rattle.json_doc.specs.declared.brackets.Bracket.{Bracket}
use Rattle.json_doc.specs.Scan.{Value, scalar_at, key_at}
use Rattle.json_doc.specs.StillDue.{Opens}
use Rattle.json_doc.proofs.PassedTexts.{empty_array_passed, array_begun, empty_object_passed, object_begun, object_unkeyed, number_passed, no_number_passed, scalar_passed, no_scalar_passed}
use Rattle.json_doc.proofs.Shorter.{behind-lt, key_at-within, value-within}
use Rattle.json_doc.proofs.Stopping.{Stops-weaker}
use Rattle.json_doc.proofs.TokenParts.{Stops-from}
use Rattle.json_doc.proofs.json_text.begin.Goals as goal

pub returns-in-Some-strip-clause-begun : goal.returns-in-Some-strip-clause-begun
returns-in-Some-strip-clause-begun c =
    empty_array_passed c.args.bytes.now _ _ (rw c.skip_blanks-front.ensures.value at c.in-Some.ensures) (rw c.skip_blanks.ensures.value at c.in-Some-strip.ensures)

pub returns-in-Some-clause-begun : goal.returns-in-Some-clause-begun
returns-in-Some-clause-begun c =
    array_begun c.args.bytes.now _ (rw c.skip_blanks-front.ensures.value at c.in-Some.ensures) (rw c.skip_blanks.ensures.value at c.in_default-strip.ensures)

pub returns-in-Some-strip-3-clause-begun : goal.returns-in-Some-strip-3-clause-begun
returns-in-Some-strip-3-clause-begun c =
    empty_object_passed c.args.bytes.now _ _ (rw c.skip_blanks-front.ensures.value at c.in-Some-strip-2.ensures) (rw c.skip_blanks-inside.ensures.value at c.in-Some-strip-3.ensures)

pub returns-in_err-rest-clause-fault : goal.returns-in_err-rest-clause-fault
returns-in_err-rest-clause-fault c =
    let p = err_from_is_err_and c.from_residual.result c.from_residual.ensures.1 in
    let begins = rw c.skip_blanks-front.ensures.value at c.in-Some-strip-2.ensures in
    let none = rw c.skip_blanks-inside.ensures.value at c.in_default-strip-3.ensures in
    rw (p.1, p.2) (Stops-weaker (λ s. key_at c.skip_blanks-inside.result.now ≡ Err s) (λ _. (outer : List Bracket) → Opens outer c.args.bytes.now → ⊥) _ (λ s h. object_unkeyed c.args.bytes.now _ s begins none (rw c.skip_blanks-inside.ensures.value at h)) c.in_err-rest.ensures.fault)

pub returns-in-Some-strip-2-clause-begun : goal.returns-in-Some-strip-2-clause-begun
returns-in-Some-strip-2-clause-begun c =
    let begins = rw c.skip_blanks-front.ensures.value at c.in-Some-strip-2.ensures in
    let none = rw c.skip_blanks-inside.ensures.value at c.in_default-strip-3.ensures in
    object_begun c.args.bytes.now _ _ _ begins none (rw c.skip_blanks-inside.ensures.value at c.in_ok-rest.ensures.read)

pub returns-in-Some-strip-2-clause-within : goal.returns-in-Some-strip-2-clause-within
returns-in-Some-strip-2-clause-within c =
    let key = key_at-within c.skip_blanks-inside.result.now _ c.in_ok-rest.ensures.read in
    let brace = behind-lt 123 c.skip_blanks-front.result.now c.in-Some-strip-2.inside.now c.in-Some-strip-2.ensures in
    omega (arith, key, brace, c.skip_blanks-front.ensures.within, c.skip_blanks-inside.ensures.within)

pub returns-in-Some-strip-2-clause-deeper : goal.returns-in-Some-strip-2-clause-deeper
returns-in-Some-strip-2-clause-deeper c = λ is.
    let key = key_at-within c.skip_blanks-inside.result.now _ c.in_ok-rest.ensures.read in
    let brace = behind-lt 123 c.skip_blanks-front.result.now c.in-Some-strip-2.inside.now c.in-Some-strip-2.ensures in
    omega (arith, key, brace, c.skip_blanks-front.ensures.within, c.skip_blanks-inside.ensures.within)

pub returns-in_err-skip_number-clause-fault : goal.returns-in_err-skip_number-clause-fault
returns-in_err-skip_number-clause-fault c =
    let p = err_from_is_err_and c.from_residual-in_err-skip_number.result c.from_residual-in_err-skip_number.ensures.1 in
    let value = c.skip_blanks-front.ensures.value in
    rw (p.1, p.2) (Stops-from (λ _. (outer : List Bracket) → Opens outer c.args.bytes.now → ⊥) _ (no_number_passed c.args.bytes.now _ (rw value at c.in_default.ensures) (rw value at c.in_default-strip-2.ensures) (rw value at (sym c.if-begins_number.ensures)) (rw value at c.in_err-skip_number.ensures.fault)))

pub returns-then-begins_number-clause-begun : goal.returns-then-begins_number-clause-begun
returns-then-begins_number-clause-begun c =
    let value = c.skip_blanks-front.ensures.value in
    let number = rw value at c.in_ok-skip_number.ensures.passed in
    number_passed c.args.bytes.now number.0 _ (rw value at c.in_default.ensures) (rw value at c.in_default-strip-2.ensures) (rw value at (sym c.if-begins_number.ensures)) number.1

pub returns-in_err-rest-2-clause-fault : goal.returns-in_err-rest-2-clause-fault
returns-in_err-rest-2-clause-fault c =
    let p = err_from_is_err_and c.from_residual-in_err-rest-2.result c.from_residual-in_err-rest-2.ensures.1 in
    let value = c.skip_blanks-front.ensures.value in
    rw (p.1, p.2) (Stops-weaker (λ s. scalar_at c.skip_blanks-front.result.now ≡ Err s) (λ _. (outer : List Bracket) → Opens outer c.args.bytes.now → ⊥) _
    (λ s h. no_scalar_passed c.args.bytes.now s (rw value at c.in_default.ensures) (rw value at c.in_default-strip-2.ensures) (rw value at (sym c.if-begins_number.ensures)) (rw value at h))
    c.in_err-rest-2.ensures.fault)

pub returns-clause-begun : goal.returns-clause-begun
returns-clause-begun c =
    let value = c.skip_blanks-front.ensures.value in
    scalar_passed c.args.bytes.now _ _ (rw value at c.in_default.ensures) (rw value at c.in_default-strip-2.ensures) (rw value at (sym c.if-begins_number.ensures)) (rw value at c.in_ok-rest-2.ensures.read)

pub returns-clause-within : goal.returns-clause-within
returns-clause-within c =
    let scalar : Value 0 c.skip_blanks-front.result.now (Ok (c.in_ok-rest-2.field-0-0, c.in_ok-rest-2.rest.now)) = Value.scalar c.in_default.ensures c.in_default-strip-2.ensures (sym c.if-begins_number.ensures) c.in_ok-rest-2.ensures.read in
    omega (arith, value-within scalar, c.skip_blanks-front.ensures.within)
