use Rattle.std.proofs.Common.{[], Some, refl}
use Rattle.aws_world.proofs.Moments.{tells_moments_none, tells_pause_more}
use Rattle.call_retry.specs.Retries.{backoff}
use Rattle.call_retry.proofs.steps.retried.Goals as goal

pub returns-clause-made : goal.returns-clause-made
returns-clause-made g c = (
  Some c.in-Ok.word,
  (refl, c.take.ensures),
  tells_pause_more [] [] (backoff c.args.number c.in-Ok.word) _ _ _ (tells_moments_none _) (rw c.backoff.ensures.pause at c.pause.ensures.paused),
  c.in-Ok.ensures.given,
)
