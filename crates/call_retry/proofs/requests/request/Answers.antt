use Rattle.std.proofs.Common.{[], Some, w64, rules}
use Rattle.std.proofs.lemmas.Int.{to_z-of_z}
use Rattle.aws_world.proofs.Moments.{tells_moments_none, tells_moment_more}
use Rattle.call_retry.proofs.requests.request.Goals as goal

pub returns-in-Some-clause-made : goal.returns-in-Some-clause-made
returns-in-Some-clause-made g c = (
  Some c.now.result,
  rw c.in-Some.is (rw (to_z-of_z w64 c.now.result (search rules)) at c.signed_request.ensures),
  tells_moment_more [] [] c.now.result _ _ _ (tells_moments_none _) c.now.ensures.given,
)
