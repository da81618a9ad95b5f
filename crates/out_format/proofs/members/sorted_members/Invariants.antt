use Rattle.std.proofs.Common.{◌≡◌, drop}
use Rattle.json_doc.specs.declared.doc.Doc.{out-Doc}
use Rattle.out_format.specs.Layers.{fields_in}
use Rattle.out_format.specs.Borrowed.{AreKeyed, members_of}
use Rattle.out_format.specs.Members.{all_placed, sorted}
use Rattle.out_format.proofs.members.sorted_members.Given as goal

-- the members so far and those that are due are all of them
abbrev pub invariant-loop-field : goal.invariant-loop-field
invariant-loop-field l = record {
  keyed : AreKeyed l.members.entries;
  due : all_placed (members_of l.members.entries) (drop l.field-index l.field-items) ≡ sorted (fields_in (out-Doc l.doc));
}
