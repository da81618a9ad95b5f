use Rattle.std.proofs.Common.{arith}
use Rattle.aws_world.proofs.Pieces.{tells_written_none, tells_written_more}
use Rattle.aws_main.proofs.sinks.write_all.Goals as goal

pub loop-at-init : goal.loop-at-init
loop-at-init g c = record { within = omega arith; written = tells_written_none _; later = omega arith }

pub loop-at-preserved : goal.loop-at-preserved
loop-at-preserved g c = record {
  within = omega (arith, c.in_ok-at.ensures.within, c.split_at.ensures.back_len);
  written = tells_written_more c.args.bytes.now _ c.loop-at.at _ _ _ _ c.split_at.ensures.back c.loop-at.invariant.written c.in_ok-at.ensures.taken;
  later = omega (arith, c.loop-at.invariant.later, c.write.ensures.cause.later);
}
