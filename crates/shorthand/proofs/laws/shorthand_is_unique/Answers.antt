use Rattle.shorthand.proofs.Outcomes.{one_tree, one_fault}
use Rattle.shorthand.proofs.laws.shorthand_is_unique.Goals as goal

pub returns-clause-tree : goal.returns-clause-tree
returns-clause-tree c = one_tree

pub returns-clause-no_fault : goal.returns-clause-no_fault
returns-clause-no_fault c = λ text t at tree fault. fault.no_tree t tree

pub returns-clause-fault : goal.returns-clause-fault
returns-clause-fault c = one_fault
