use Rattle.std.proofs.Common.{◌≡◌, [], length}
use Rattle.std.specs.List.{All}
use Rattle.service_model.proofs.reach.empty_lists.Given as goal

abbrev pub invariant-loop : goal.invariant-loop
invariant-loop l = record { size : length l.lists.items ≡ l.counter; empty : All (λ list. list.items ≡ []) l.lists.items }
