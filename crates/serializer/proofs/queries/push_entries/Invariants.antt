use Rattle.std.proofs.Common.{◌≡◌, ◌++◌, drop, Some}
use Rattle.std.specs.List.{flat_map}
use Rattle.serializer.specs.Queries.{entry_parameters}
use Rattle.serializer.proofs.queries.push_entries.Given as goal

-- the parameters so far and those that are due are all of them
abbrev pub invariant-loop-field : goal.invariant-loop-field
invariant-loop-field l =
    l.out ++ flat_map (entry_parameters l.model.shapes (Some l.item)) (drop l.field-index l.fields) ≡ l.fn.out ++ flat_map (entry_parameters l.model.shapes (Some l.item)) l.fields
