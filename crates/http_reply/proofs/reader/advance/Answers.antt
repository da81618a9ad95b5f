use Rattle.std.proofs.Common.{arith}
use Rattle.http_reply.specs.Reading.{phase_of}
use Rattle.http_reply.proofs.AdvanceLemmas.{IsMoved, moved}
use Rattle.http_reply.proofs.ScanLemmas.{scanned_none}
use Rattle.http_reply.proofs.reader.advance.Goals as goal
use Rattle.http_reply.proofs.reader.advance.Goals.{In-Moves}

-- the move that was made
made : (c : In-Moves) → IsMoved c.args.head_only (phase_of c.args.due c.args.reply.now) c.args.bytes.now c.loop-next.at c.in-Moves.taken c.in-Moves.next c.step.new.reply
made c =
    moved c.args.head_only (phase_of c.args.due c.args.reply.now) c.args.bytes.now c.loop-next.due c.loop-next.reply c.step.new.reply c.split_at.result.1.now
    c.loop-next.at c.in_ok-step.field-0 c.in-Moves.next c.in-Moves.taken c.loop-next.invariant.leads c.split_at.ensures.back c.loop-next.invariant.within
    c.in_ok-step.ensures.step c.in_ok-step.ensures.fits c.in-Moves.is

pub overflow_add-at : goal.overflow_add-at
overflow_add-at c = let m = made c in omega arith

pub loop-next-smaller : goal.loop-next-smaller
loop-next-smaller c = let m = made c in omega arith

pub loop-next-preserved : goal.loop-next-preserved
loop-next-preserved c =
    let m = made c in
    record { within = m.within; fits = m.fits; scanned = scanned_none c.in-Moves.next _; leads = m.leads }
