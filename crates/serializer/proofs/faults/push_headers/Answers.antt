use Rattle.std.proofs.Common.{◌+◌, drop, sym, ap, ◌∙◌}
use Rattle.std.proofs.lemmas.Result.{err_from_is_err_and}
use Rattle.texts.specs.Calls.{◌>>=◌}
use Rattle.serializer.specs.Faults.{is_memory, headers_from}
use Rattle.serializer.specs.Inside.{asked}
use Rattle.serializer.proofs.HeaderSteps.{unless_for, headers-next}
use Rattle.serializer.proofs.faults.push_headers.Goals as goal

pub loop-member-preserved : goal.loop-member-preserved
loop-member-preserved c =
    let r = asked c.args.request.now in
    let ms = c.members_of-member-items.result.now in
    let i = c.loop-member.member-index in
    let next = headers-next r c.loop-member.out ms i c.member-item.result c.loop-member-test.true c.member-item.is in
    sym (next ∙ ap (λ due. due >>= (λ more. headers_from r more (drop (i + 1) ms))) c.in_ok-push_member.ensures) ∙ c.loop-member.invariant

pub returns-in_err-push_member : goal.returns-in_err-push_member
returns-in_err-push_member c =
    let r = asked c.args.request.now in
    let ms = c.members_of-member-items.result.now in
    let i = c.loop-member.member-index in
    let p = err_from_is_err_and c.from_residual.result c.from_residual.ensures.1 in
    let next = headers-next r c.loop-member.out ms i c.member-item.result c.loop-member-test.true c.member-item.is in
    rw (p.1, p.2) (unless_for (is_memory c.in_err-push_member.field-0.0) _ _ c.in_err-push_member.ensures (λ fails.
    ap (headers_from r c.args.out.now) (sym c.members_of-member-items.ensures) ∙ sym c.loop-member.invariant
    ∙ next ∙ ap (λ due. due >>= (λ more. headers_from r more (drop (i + 1) ms))) fails))
