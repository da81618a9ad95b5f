use Rattle.std.proofs.Common.{List, arith, refl}
use Rattle.std.proofs.lemmas.Result.{err_from_is_err_and}
use Rattle.json_doc.specs.declared.brackets.Bracket.{Bracket}
use Rattle.json_doc.specs.StillDue.{Opens}
use Rattle.json_doc.proofs.Stopping.{Stops-weaker}
use Rattle.json_doc.proofs.json_text.descend.Goals as goal

pub returns-in_err-opened-clause-fault : goal.returns-in_err-opened-clause-fault
returns-in_err-opened-clause-fault c =
    let p = err_from_is_err_and c.from_residual.result c.from_residual.ensures.1 in
    rw (p.1, p.2) (Stops-weaker (λ _. (outer : List Bracket) → Opens outer c.loop-opened.rest.now → ⊥) (λ _. Opens c.args.brackets.now c.args.bytes.now → ⊥) _ (λ s none due. none c.loop-opened.brackets (c.loop-opened.invariant.0.0 due)) c.in_err-opened.ensures.fault)

pub loop-opened-preserved : goal.loop-opened-preserved
loop-opened-preserved c =
    let before = c.loop-opened.invariant in
    let begun = (rw c.in-Some.is at c.in_ok-opened.ensures.begun) c.loop-opened.brackets in
    let deeper = (rw c.in-Some.is at c.in_ok-opened.ensures.deeper) refl in
    rw c.in_ok-push.ensures (((λ due. begun.0 (before.0.0 due)), (λ due. before.0.1 (begun.1 due))), omega (arith, deeper, before.1))
