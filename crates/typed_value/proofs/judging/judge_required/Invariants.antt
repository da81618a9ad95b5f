use Rattle.std.proofs.Common.{◌≡◌, ◌++◌, take}
use Rattle.std.specs.List.{flat_map}
use Rattle.typed_value.specs.Faults.{missing_faults}
use Rattle.typed_value.proofs.judging.judge_required.Given as goal

abbrev pub invariant-loop-name : goal.invariant-loop-name
invariant-loop-name l = l.faults ≡ l.fn.faults ++ flat_map (missing_faults l.path l.fields) (take l.name-index l.name-items)
