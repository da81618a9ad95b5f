use Rattle.std.proofs.Common.{arith, sym}
use Rattle.call_retry.proofs.Pauses.{late}
use Rattle.call_retry.proofs.retry.Retry.backoff.Goals as goal

pub returns-then-attempt-ge-LATE-clause-pause : goal.returns-then-attempt-ge-LATE-clause-pause
returns-then-attempt-ge-LATE-clause-pause c =
    sym (late c.args.attempt c.args.word (omega (arith, c.if-attempt-ge-LATE.true)) (omega (arith, c.if-word-eq0.false)))
