use Rattle.std.proofs.Common.{refl}
use Rattle.aws_world.specs.Connection.{faulted}
use Rattle.aws_world.proofs.Last.{on_last_back}
use Rattle.aws_world.proofs.connection_log.put_fault.Goals as goal

pub returns-in_ok-push : goal.returns-in_ok-push
returns-in_ok-push c =
    on_last_back (faulted c.args.fault) _ _ _ c.in-Some.last _ c.in-Some.ensures.items c.in_ok-push.ensures.items refl
