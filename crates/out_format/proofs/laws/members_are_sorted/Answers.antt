use Rattle.out_format.proofs.SortedMembers.{ascending-sorted, permutation-sorted}
use Rattle.out_format.proofs.laws.members_are_sorted.Goals as goal

pub returns-clause-ascending : goal.returns-clause-ascending
returns-clause-ascending c = λ members. ascending-sorted members

pub returns-clause-same : goal.returns-clause-same
returns-clause-same c = λ members distinct. permutation-sorted members distinct
