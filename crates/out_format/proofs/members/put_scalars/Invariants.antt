use Rattle.std.proofs.Common.{◌≡◌, drop}
use Rattle.std.specs.Prelude.{filter}
use Rattle.json_doc.specs.declared.doc.Doc.{out-Doc}
use Rattle.out_format.specs.Borrowed.{AreKeyed, members_of}
use Rattle.out_format.specs.Layers.{is_scalar}
use Rattle.out_format.specs.Members.{all_placed}
use Rattle.out_format.proofs.members.put_scalars.Given as goal

-- the members so far and those that are due are all of them
abbrev pub invariant-loop-field : goal.invariant-loop-field
invariant-loop-field l = record {
  keyed : AreKeyed l.members.entries;
  due : all_placed (members_of l.members.entries) (filter (λ p. is_scalar (out-Doc p.value)) (drop l.field-index l.fields))
      ≡ all_placed (members_of l.fn.members.entries) (filter (λ p. is_scalar (out-Doc p.value)) l.fn.fields);
}
