use Rattle.std.proofs.Common.{arith}
use Rattle.aws_world.proofs.Pieces.{tells_sent_none, tells_sent_more}
use Rattle.http_exchange.proofs.sending.send_all.Goals as goal

pub loop-at-init : goal.loop-at-init
loop-at-init g c = record {
  live = c.requires.live;
  unheard = c.requires.unheard;
  within = omega arith;
  sent = tells_sent_none _;
  later = omega arith;
}

pub loop-at-preserved : goal.loop-at-preserved
loop-at-preserved g c = record {
  live = c.send.ensures.live;
  unheard = c.send.ensures.unheard;
  within = omega (arith, c.in_ok-at.ensures.within, c.split_at.ensures.back_len);
  sent = tells_sent_more c.args.bytes.now _ c.loop-at.at _ _ _ _ c.split_at.ensures.back c.loop-at.invariant.sent c.in_ok-at.ensures.sent;
  later = omega (arith, c.loop-at.invariant.later, c.send.ensures.cause.later);
}
