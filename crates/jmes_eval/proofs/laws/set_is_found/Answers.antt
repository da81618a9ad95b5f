use Rattle.jmes_eval.proofs.SetAndGet.{search_along, search_set, others_stay}
use Rattle.jmes_eval.proofs.laws.set_is_found.Goals as goal

pub returns-clause-along : goal.returns-clause-along
returns-clause-along c = search_along

pub returns-clause-found : goal.returns-clause-found
returns-clause-found c = search_set

pub returns-clause-others : goal.returns-clause-others
returns-clause-others c = λ front behind k j value d apart. others_stay front behind k j value d apart
