use Rattle.std.proofs.Common.{◌≡◌, ◌+◌, ◌*◌, ◌++◌, List, drop}
use denote.Param.Weighed.{most}
use Rattle.json_doc.specs.declared.doc.Doc.{size-Doc}
use Rattle.rule_sets.specs.Cuts.{IsCut}
use Rattle.rule_sets.specs.Rules.{WholeLeaf, leaves_below, path_of}
use Rattle.rule_sets.proofs.reading.+cutting.Given as goal

abbrev pub decreases-cut_rules : goal.decreases-cut_rules
decreases-cut_rules l = 2 * most size-Doc l.docs.now + 1

abbrev pub decreases-cut_rule : goal.decreases-cut_rule
decreases-cut_rule l = 2 * goal.size-cut_rule l

-- the leaves of the rules so far stand there, and those of the rest are left
abbrev pub invariant-cut_rules-loop-at : goal.invariant-cut_rules-loop-at
invariant-cut_rules-loop-at l = (done : List WholeLeaf) × IsCut l.fn.rules l.rules done
    × (done ++ leaves_below (path_of l.fn.rules.conditions l.path) l.place l.at (drop l.at l.docs) ≡ leaves_below (path_of l.fn.rules.conditions l.path) l.place 0 l.docs)
