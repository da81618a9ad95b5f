use Rattle.std.proofs.Common.{refl}
use Rattle.aws_world.specs.Connection.{peer_ended}
use Rattle.aws_world.proofs.Last.{on_last_back}
use Rattle.aws_world.proofs.connection_log.put_end.Goals as goal

pub returns-in_ok-push : goal.returns-in_ok-push
returns-in_ok-push c =
    on_last_back peer_ended _ _ _ c.in-Some.last _ c.in-Some.ensures.items c.in_ok-push.ensures.items refl
