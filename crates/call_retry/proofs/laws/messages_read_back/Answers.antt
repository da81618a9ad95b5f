use Rattle.call_retry.proofs.ReadBack.{read_back}
use Rattle.call_retry.proofs.laws.messages_read_back.Goals as goal

pub returns : goal.returns
returns c =
    read_back c.requests_read_back.ensures c.headers_are_clean.ensures c.headers_are_named.ensures c.targets_are_visible.ensures
    c.paths_are_there.ensures
