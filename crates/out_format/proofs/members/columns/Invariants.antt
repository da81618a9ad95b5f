use Rattle.std.proofs.Common.{◌≡◌, drop}
use Rattle.std.specs.List.{flat_map}
use Rattle.out_format.specs.Borrowed.{AreKeyed, members_of}
use Rattle.out_format.specs.Members.{all_placed, sorted}
use Rattle.out_format.proofs.Placing.{scalar_fields}
use Rattle.out_format.proofs.members.columns.Given as goal

-- the members so far and those that are due are all of them
abbrev pub invariant-loop-doc : goal.invariant-loop-doc
invariant-loop-doc l = record {
  keyed : AreKeyed l.members.entries;
  due : all_placed (members_of l.members.entries) (flat_map scalar_fields (drop l.doc-index l.docs)) ≡ sorted (flat_map scalar_fields l.docs);
}
