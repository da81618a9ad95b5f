use Rattle.std.specs.List.{flat_map}
use Rattle.out_format.specs.Members.{scalar_members}
use Rattle.out_format.proofs.SortedMembers.{ascending-sorted, key-sorted}
use Rattle.out_format.proofs.laws.columns_are_scalar_keys.Goals as goal

pub returns-clause-ascending : goal.returns-clause-ascending
returns-clause-ascending c = λ layers. ascending-sorted (flat_map scalar_members layers)

pub returns-clause-exact : goal.returns-clause-exact
returns-clause-exact c = λ layers key. key-sorted key (flat_map scalar_members layers)
