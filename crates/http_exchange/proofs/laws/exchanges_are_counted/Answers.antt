use Rattle.http_exchange.proofs.Joins.{exchanges_are_counted}
use Rattle.http_exchange.proofs.laws.exchanges_are_counted.Goals as goal

pub returns : goal.returns
returns c = exchanges_are_counted
