use Rattle.std.proofs.Common.{◌≡◌, ◌++◌, map, drop}
use Rattle.typed_value.specs.Lines.{names_text}
use Rattle.typed_value.proofs.Joining.{name_of, rest_of}
use Rattle.typed_value.proofs.lines.write_names.Given as goal

abbrev pub invariant-loop-member : goal.invariant-loop-member
invariant-loop-member l = l.out ++ rest_of l.is_first (map name_of (drop l.member-index l.members)) ≡ l.fn.out ++ names_text l.members
