use Rattle.std.proofs.Common.{◌≡◌, drop}
use Rattle.rule_terms.specs.declared.function.TheConstants.{FUNCTIONS}
use Rattle.rule_terms.specs.Functions.{first_named, function_named}
use Rattle.rule_terms.proofs.function.Function.named.Given as goal

-- none of those so far has the name
abbrev pub invariant-loop-function : goal.invariant-loop-function
invariant-loop-function l = first_named l.name (drop l.function-index FUNCTIONS) ≡ function_named l.name
