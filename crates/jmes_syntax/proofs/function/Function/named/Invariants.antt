use Rattle.std.proofs.Common.{◌≡◌, drop}
use Rattle.jmes_syntax.specs.declared.function.TheConstants.{FUNCTIONS}
use Rattle.jmes_syntax.specs.Functions.{first_named, function_named}
use Rattle.jmes_syntax.proofs.function.Function.named.Given as goal

-- none of those so far has the name
abbrev pub invariant-loop-function : goal.invariant-loop-function
invariant-loop-function l = first_named l.name (drop l.function-index FUNCTIONS) ≡ function_named l.name
