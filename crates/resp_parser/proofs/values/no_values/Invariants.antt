use Rattle.std.proofs.Common.{◌≡◌, [], take}
use Rattle.resp_parser.specs.Inside.{values_of}
use Rattle.resp_parser.proofs.values.no_values.Given as goal

abbrev pub invariant-loop-member : goal.invariant-loop-member
invariant-loop-member l = l.values.items ≡ values_of (take l._member-index l.members) []
