use Rattle.std.proofs.Common.{◌<◌, ◌++◌, [], ◌∙◌, arith, refl, length-append}
use Rattle.aws_world.proofs.Causes.{rose_after}
use Rattle.aws_world.proofs.Pieces.{tells_received_none}
use Rattle.http_reply.specs.declared.limits.TheConstants.{TOTAL_LIMIT}
use Rattle.http_exchange.proofs.Receipts.{receipt_decided, receipt_ended, receipt_failed, not_lost, piece_nearer, piece_received, waited_before}
use Rattle.http_exchange.proofs.receiving.receive_reply.Goals as goal

pub loop-reader-init : goal.loop-reader-init
loop-reader-init g c = record {
  live = c.requires.live;
  size = refl;
  going = ([], c.requires.unread, tells_received_none _);
  later = omega arith;
}

pub finish-requires : goal.finish-requires
finish-requires g c = let so_far = c.loop-reader.invariant.going in (c.args.head_only, so_far.0, so_far.1)

pub returns-in-Ok-eq0-clause-told : goal.returns-in-Ok-eq0-clause-told
returns-in-Ok-eq0-clause-told g c =
    let so_far = c.loop-reader.invariant.going in
    receipt_ended c.args.head_only so_far.0 _ _ _ _ so_far.2 (c.in-Ok-eq0.ensures.ended c.in-Ok-eq0.field-0-test)
    (c.finish.ensures.outcome c.args.head_only so_far.0 so_far.1) c.finish.ensures.memory (_, _, so_far.1.waiting)

pub returns-in-Ok-eq0-clause-later : goal.returns-in-Ok-eq0-clause-later
returns-in-Ok-eq0-clause-later g c = omega (arith, c.loop-reader.invariant.later, c.receive.ensures.cause.later)

pub returns-in-Ok-eq0-clause-lost : goal.returns-in-Ok-eq0-clause-lost
returns-in-Ok-eq0-clause-lost g c = λ lost.
    let so_far = c.loop-reader.invariant.going in
    absurd (not_lost c.args.head_only so_far.0 _ _ (c.finish.ensures.outcome c.args.head_only so_far.0 so_far.1) lost)

pub read-requires : goal.read-requires
read-requires g c = let so_far = c.loop-reader.invariant.going in (c.args.head_only, so_far.0, so_far.1)

pub returns-in-Some-clause-told : goal.returns-in-Some-clause-told
returns-in-Some-clause-told g c =
    let so_far = c.loop-reader.invariant.going in
    let some : 0 < c.in-Ok.count = omega (arith, c.in-Ok.count-test) in
    receipt_decided c.args.head_only (so_far.0 ++ c.split_at.result.0.now) c.in-Some.outcome _ _
    (piece_received so_far.0 c.split_at.result.0.now _ _ _ _ c.split_at.ensures.front so_far.2 (c.in-Ok.ensures.received some))
    (c.in-Some.ensures.gives c.args.head_only so_far.0 so_far.1)
    (omega (arith, length-append so_far.0 c.split_at.result.0.now, c.split_at.ensures.front_len, some))
    (waited_before c.args.head_only so_far.0 c.split_at.result.0.now c.in-Ok.count (_, _, so_far.1.waiting) c.split_at.ensures.front_len
    (omega (arith, c.in-Ok.ensures.within, c.receive.auto.room, c.loop-reader.invariant.size)))

pub returns-in-Some-clause-later : goal.returns-in-Some-clause-later
returns-in-Some-clause-later g c = omega (arith, c.loop-reader.invariant.later, c.receive.ensures.cause.later)

pub returns-in-Some-clause-lost : goal.returns-in-Some-clause-lost
returns-in-Some-clause-lost g c = λ lost.
    let so_far = c.loop-reader.invariant.going in
    absurd (not_lost c.args.head_only (so_far.0 ++ c.split_at.result.0.now) _ _ (c.in-Some.ensures.gives c.args.head_only so_far.0 so_far.1) lost)

pub loop-reader-smaller : goal.loop-reader-smaller
loop-reader-smaller g c =
    let so_far = c.loop-reader.invariant.going in
    let next = c.in_default.ensures.gives c.args.head_only so_far.0 so_far.1 in
    let some : 0 < c.in-Ok.count = omega (arith, c.in-Ok.count-test) in
    piece_nearer so_far.0 c.split_at.result.0.now _ _ c.in-Ok.count TOTAL_LIMIT so_far.1.counted next.counted c.split_at.ensures.front_len some so_far.1.waiting.1

pub loop-reader-preserved : goal.loop-reader-preserved
loop-reader-preserved g c =
    let so_far = c.loop-reader.invariant.going in
    let some : 0 < c.in-Ok.count = omega (arith, c.in-Ok.count-test) in
    record {
      live = c.receive.ensures.live;
      size = c.receive.auto.room ∙ c.loop-reader.invariant.size;
      going = (
        so_far.0 ++ c.split_at.result.0.now,
        c.in_default.ensures.gives c.args.head_only so_far.0 so_far.1,
        piece_received so_far.0 c.split_at.result.0.now _ _ _ _ c.split_at.ensures.front so_far.2 (c.in-Ok.ensures.received some),
      );
      later = omega (arith, c.loop-reader.invariant.later, c.receive.ensures.cause.later);
    }

pub finish-requires-in-Err : goal.finish-requires-in-Err
finish-requires-in-Err g c = let so_far = c.loop-reader.invariant.going in (c.args.head_only, so_far.0, so_far.1)

pub returns-in-Err-clause-told : goal.returns-in-Err-clause-told
returns-in-Err-clause-told g c =
    let so_far = c.loop-reader.invariant.going in
    receipt_failed c.args.head_only so_far.0 c.in-Err.fault _ _ _ _ so_far.2 c.in-Err.ensures.failed
    (c.finish-in-Err.ensures.outcome c.args.head_only so_far.0 so_far.1) c.finish-in-Err.ensures.memory (_, _, so_far.1.waiting)

pub returns-in-Err-clause-later : goal.returns-in-Err-clause-later
returns-in-Err-clause-later g c = omega (arith, c.loop-reader.invariant.later, c.receive.ensures.cause.later)

pub returns-in-Err-clause-lost : goal.returns-in-Err-clause-lost
returns-in-Err-clause-lost g c = λ lost. rose_after _ _ _ c.loop-reader.invariant.later c.in-Err.ensures.cause.failed
