use Rattle.std.proofs.Common.{◌≡◌, ◌++◌, drop, map}
use Rattle.rule_sets.specs.Rules.{parameter_of}
use Rattle.rule_sets.proofs.reading.read_parameters.Given as goal

-- the parameters so far, and those of the rest
abbrev pub invariant-loop-field : goal.invariant-loop-field
invariant-loop-field l = l.parameters ++ map (λ p. parameter_of p.key p.value) (drop l.field-index l.field-items) ≡ map (λ p. parameter_of p.key p.value) l.field-items
