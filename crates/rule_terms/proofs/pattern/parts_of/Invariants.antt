use Rattle.std.proofs.Common.{◌≡◌, ◌++◌, List, drop}
use Rattle.std.specs.Prelude.{option_map}
use Rattle.rule_terms.specs.declared.pattern.Part.{Part}
use Rattle.rule_terms.specs.Patterns.{parts_of}
use Rattle.rule_terms.proofs.pattern.parts_of.Given as goal

-- with the parts so far in front, what the pieces left are parts of is what all are
abbrev pub invariant-loop-at : goal.invariant-loop-at
invariant-loop-at l = option_map (λ (others : List Part). l.parts ++ others) (parts_of (drop l.at l.pieces)) ≡ parts_of l.pieces
