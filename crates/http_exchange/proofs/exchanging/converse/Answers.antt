use Rattle.http_exchange.proofs.Adds.{adds_refused, adds_unsent, adds_answered}
use Rattle.http_exchange.proofs.exchanging.converse.Goals as goal

pub returns-in-Err-clause-adds : goal.returns-in-Err-clause-adds
returns-in-Err-clause-adds g c =
    adds_refused c.args.target.now c.args.request.now c.args.head_only c.in-Err.fault _ _ (_, _, c.new-reader.ensures.waiting) c.in-Err.ensures.refused

pub returns-in-Err-send_all-clause-adds : goal.returns-in-Err-send_all-clause-adds
returns-in-Err-send_all-clause-adds g c =
    adds_unsent c.args.target.now c.args.request.now c.args.head_only c.in-Err-send_all.fault _ _ _ (_, _, c.new-reader.ensures.waiting)
    c.in_default.ensures.made c.in-Err-send_all.ensures.failed

pub returns-clause-adds : goal.returns-clause-adds
returns-clause-adds g c =
    adds_answered c.args.target.now c.args.request.now c.args.head_only c.receive_reply.result _ _ _ _
    c.in_default.ensures.made c.in_default-send_all.ensures.sent c.receive_reply.ensures.told
