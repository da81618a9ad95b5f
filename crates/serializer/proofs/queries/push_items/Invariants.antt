use Rattle.std.proofs.Common.{◌≡◌, ◌++◌, drop, Some}
use Rattle.std.specs.List.{flat_map}
use Rattle.serializer.specs.Queries.{item_parameters}
use Rattle.serializer.proofs.queries.push_items.Given as goal

-- the parameters so far and those that are due are all of them
abbrev pub invariant-loop-item : goal.invariant-loop-item
invariant-loop-item l =
    l.out ++ flat_map (item_parameters l.model.shapes (Some l.shape) l.name) (drop l.item-index l.items) ≡ l.fn.out ++ flat_map (item_parameters l.model.shapes (Some l.shape) l.name) l.items
