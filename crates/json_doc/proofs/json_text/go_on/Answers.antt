use Rattle.std.proofs.Common.{◌≡◌, List, ◌∷◌, Err, arith}
use Rattle.std.proofs.lemmas.Result.{err_from_is_err_and}
use Rattle.json_doc.specs.declared.brackets.Bracket.{Bracket}
use Rattle.json_doc.specs.declared.brackets.Bracket.TheVariants.{Array, Object}
use Rattle.json_doc.specs.Scan.{key_at}
use Rattle.json_doc.specs.StillDue.{Closes}
use Rattle.json_doc.proofs.PassedTexts.{past_some, past_none, array_closed, array_goes_on, array_stuck, object_closed, object_goes_on, object_keyless, object_stuck}
use Rattle.json_doc.proofs.Shorter.{behind-lt, key_at-within}
use Rattle.json_doc.proofs.Stopping.{Stops-weaker}
use Rattle.json_doc.proofs.TokenParts.{Stops-from}
use Rattle.json_doc.proofs.json_text.go_on.Goals as goal

pub returns-in-Some-clause-gone : goal.returns-in-Some-clause-gone
returns-in-Some-clause-gone c = rw c.in-Array.is (array_closed c.args.bytes.now _ (rw c.skip_blanks-front.ensures.value at c.in-Some.ensures))

pub returns-in_err-pass-in-Array-clause-fault : goal.returns-in_err-pass-in-Array-clause-fault
returns-in_err-pass-in-Array-clause-fault c =
    let p = err_from_is_err_and c.from_residual.result c.from_residual.ensures.1 in
    rw (p.1, p.2, c.in-Array.is) (Stops-from (λ _. (outer : List Bracket) → Closes (Array ∷ outer) c.args.bytes.now → ⊥) _ (array_stuck c.args.bytes.now (rw c.skip_blanks-front.ensures.value at c.in_default.ensures) (rw c.skip_blanks-front.ensures.value at (past_none 44 c.skip_blanks-front.result.now _ c.in_err-pass-in-Array.ensures))))

pub returns-in-Some-strip-clause-gone : goal.returns-in-Some-strip-clause-gone
returns-in-Some-strip-clause-gone c = rw c.in-Object.is (object_closed c.args.bytes.now _ (rw c.skip_blanks-front.ensures.value at c.in-Some-strip.ensures))

pub returns-in_err-pass-in-Object-clause-fault : goal.returns-in_err-pass-in-Object-clause-fault
returns-in_err-pass-in-Object-clause-fault c =
    let p = err_from_is_err_and c.from_residual-in_err-pass-in-Object.result c.from_residual-in_err-pass-in-Object.ensures.1 in
    rw (p.1, p.2, c.in-Object.is) (Stops-from (λ _. (outer : List Bracket) → Closes (Object ∷ outer) c.args.bytes.now → ⊥) _ (object_stuck c.args.bytes.now (rw c.skip_blanks-front.ensures.value at c.in_default-strip.ensures) (rw c.skip_blanks-front.ensures.value at (past_none 44 c.skip_blanks-front.result.now _ c.in_err-pass-in-Object.ensures))))

pub returns-in_err-rest-in-Object-clause-fault : goal.returns-in_err-rest-in-Object-clause-fault
returns-in_err-rest-in-Object-clause-fault c =
    let p = err_from_is_err_and c.from_residual-in_err-rest-in-Object.result c.from_residual-in_err-rest-in-Object.ensures.1 in
    let none = rw c.skip_blanks-front.ensures.value at c.in_default-strip.ensures in
    let comma = rw c.skip_blanks-front.ensures.value at (past_some 44 c.skip_blanks-front.result.now _ c.in_ok-pass-in-Object.ensures) in
    rw (p.1, p.2, c.in-Object.is) (Stops-weaker (λ s. key_at c.skip_blanks.result.now ≡ Err s) (λ _. (outer : List Bracket) → Closes (Object ∷ outer) c.args.bytes.now → ⊥) _ (λ s h. object_keyless c.args.bytes.now c.in_ok-pass-in-Object.field-0.now s none comma (rw c.skip_blanks.ensures.value at h)) c.in_err-rest-in-Object.ensures.fault)

pub returns-in_ok-pass-in-Array-clause-gone : goal.returns-in_ok-pass-in-Array-clause-gone
returns-in_ok-pass-in-Array-clause-gone c =
    rw c.in-Array.is (array_goes_on c.args.bytes.now _ (rw c.skip_blanks-front.ensures.value at c.in_default.ensures) (rw c.skip_blanks-front.ensures.value at (past_some 44 c.skip_blanks-front.result.now _ c.in_ok-pass-in-Array.ensures)))

pub returns-in_ok-rest-in-Object-clause-gone : goal.returns-in_ok-rest-in-Object-clause-gone
returns-in_ok-rest-in-Object-clause-gone c =
    let none = rw c.skip_blanks-front.ensures.value at c.in_default-strip.ensures in
    let comma = rw c.skip_blanks-front.ensures.value at (past_some 44 c.skip_blanks-front.result.now _ c.in_ok-pass-in-Object.ensures) in
    rw c.in-Object.is (object_goes_on c.args.bytes.now c.in_ok-pass-in-Object.field-0.now _ _ none comma (rw c.skip_blanks.ensures.value at c.in_ok-rest-in-Object.ensures.read))

pub returns-in_ok-rest-in-Object-clause-shorter : goal.returns-in_ok-rest-in-Object-clause-shorter
returns-in_ok-rest-in-Object-clause-shorter c =
    let key = key_at-within c.skip_blanks.result.now _ c.in_ok-rest-in-Object.ensures.read in
    let comma = behind-lt 44 c.skip_blanks-front.result.now c.in_ok-pass-in-Object.field-0.now (past_some 44 c.skip_blanks-front.result.now _ c.in_ok-pass-in-Object.ensures) in
    omega (arith, key, comma, c.skip_blanks-front.ensures.within, c.skip_blanks.ensures.within)
