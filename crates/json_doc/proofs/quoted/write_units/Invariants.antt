use Rattle.std.proofs.Common.{◌≡◌, ◌++◌, take}
use Rattle.std.specs.List.{flat_map}
use Rattle.json_doc.specs.Escapes.{unit_escape}
use Rattle.json_doc.proofs.quoted.write_units.Given as goal

abbrev pub invariant-loop-unit : goal.invariant-loop-unit
invariant-loop-unit l = l.out ≡ l.fn.out ++ flat_map unit_escape (take l.unit-index l.unit-items)
