use Rattle.http_exchange.proofs.Joins.{exchanges_join}
use Rattle.http_exchange.proofs.laws.exchanges_join.Goals as goal

pub returns : goal.returns
returns c = exchanges_join
