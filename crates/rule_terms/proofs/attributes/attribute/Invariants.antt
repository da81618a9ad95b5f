use Rattle.std.proofs.Common.{◌≡◌, drop, nat_eq, Some}
use Rattle.std.specs.Str.{chars}
use Rattle.rule_terms.specs.Attributes.{along, attribute_of}
use Rattle.rule_terms.proofs.attributes.attribute.Given as goal

-- what stands at the parts left, from what was found so far
abbrev pub invariant-loop-at : goal.invariant-loop-at
invariant-loop-at l = along (nat_eq l.at 0) (drop l.at l.part-items) (Some l.found) ≡ attribute_of (chars l.fn.path) l.fn.value
