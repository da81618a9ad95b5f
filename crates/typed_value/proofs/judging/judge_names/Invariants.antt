use Rattle.std.proofs.Common.{◌≡◌, ◌++◌, take}
use Rattle.std.specs.List.{flat_map}
use Rattle.typed_value.specs.Faults.{unknown_faults}
use Rattle.typed_value.specs.Places.{member_named}
use Rattle.typed_value.proofs.judging.judge_names.Given as goal

abbrev pub invariant-loop-field : goal.invariant-loop-field
invariant-loop-field l =
    l.faults ≡ l.fn.faults ++ flat_map (λ p. unknown_faults l.numbered.id l.path p.key (member_named p.key l.numbered.shape.now.members)) (take l.field-index l.fields)
