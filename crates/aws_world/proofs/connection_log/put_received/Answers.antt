use Rattle.std.proofs.Common.{ap}
use Rattle.aws_world.specs.Connection.{more_received}
use Rattle.aws_world.proofs.Last.{on_last_back}
use Rattle.aws_world.proofs.connection_log.put_received.Goals as goal

pub returns-in_ok-push : goal.returns-in_ok-push
returns-in_ok-push c =
    on_last_back (more_received c.args.bytes.now) _ _ _ c.in-Some.last _ c.in-Some.ensures.items c.in_ok-push.ensures.items (ap (λ bytes. record c.in-Some.last { received = bytes }) c.in_ok-extend.ensures.ok)
