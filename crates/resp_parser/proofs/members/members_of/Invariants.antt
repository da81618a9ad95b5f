use Rattle.std.proofs.Common.{◌≡◌, length, take, drop}
use Rattle.resp_parser.specs.Inside.{values_of}
use Rattle.resp_parser.proofs.Names.{AreNames}
use Rattle.resp_parser.proofs.Placed.{Leads}
use Rattle.resp_parser.proofs.members.members_of.Given as goal

abbrev pub invariant-loop-at : goal.invariant-loop-at
invariant-loop-at l = record {
  count : length l.values.items ≡ length l.members;
  left : drop l.at l.values.items ≡ drop l.at (values_of l.members l.fn.fields);
  names : AreNames (take l.at l.members) l.made;
  due : Leads l.given.model.now.shapes l.given.reply.now l.given.shape.now.payload l.fn.fields (drop l.at l.members) l.members l.made;
}
