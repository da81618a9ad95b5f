use Rattle.std.proofs.Common.{◌≡◌, drop}
use Rattle.rule_sets.specs.BadRules.{judged_pieces}
use Rattle.rule_sets.proofs.judging.judge_template.Given as goal

-- what is left is judged as all is
abbrev pub invariant-loop-piece : goal.invariant-loop-piece
invariant-loop-piece l = judged_pieces l.names (drop l.piece-index l.piece-items) ≡ judged_pieces l.names l.piece-items
