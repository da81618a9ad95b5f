use Rattle.std.proofs.Common.{◌≡◌, ◌++◌, map, drop}
use Rattle.std.specs.Prelude.{All}
use Rattle.sigv4.specs.Parameters.{shown}
use Rattle.sigv4.proofs.SortedPairs.{IsText}
use Rattle.sigv4.proofs.parameters.sorted_query.Given as goal

-- the parameters so far and those that are due are all of them
abbrev pub invariant-loop-name : goal.invariant-loop-name
invariant-loop-name l = record {
  due : map shown l.sorted.items ++ drop l.name-index l.query ≡ l.query;
  texts : All IsText l.sorted.items;
}
