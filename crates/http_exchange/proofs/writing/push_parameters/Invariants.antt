use Rattle.std.proofs.Common.{◌≡◌, ◌++◌, drop}
use Rattle.http_exchange.specs.Wire.{parameters}
use Rattle.http_exchange.proofs.writing.push_parameters.Given as goal

-- the parameters so far and those that are due are all of them
abbrev pub invariant-loop-name : goal.invariant-loop-name
invariant-loop-name l = l.head ++ parameters l.mark (drop l.name-index l.query) ≡ l.fn.head ++ parameters 63 l.query
