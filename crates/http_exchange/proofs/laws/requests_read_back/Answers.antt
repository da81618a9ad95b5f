use Rattle.http_exchange.proofs.ReadHeads.{reads_back}
use Rattle.http_exchange.proofs.laws.requests_read_back.Goals as goal

pub returns : goal.returns
returns c = reads_back
