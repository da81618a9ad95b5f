use Rattle.std.proofs.Common.{take}
use Rattle.texts.specs.Keys.{IsNew}
use Rattle.resp_parser.specs.Inside.{wires_in}
use Rattle.resp_parser.proofs.values.first_member.Given as goal

-- none of the members so far is sent under the name
abbrev pub invariant-loop-at : goal.invariant-loop-at
invariant-loop-at l = IsNew l.wire (wires_in (take l.at l.members))
