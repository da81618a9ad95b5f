-- Cited by private contracts alone.
use Rattle.std.specs.Prelude.{Bool, true, false}
use Rattle.jmes_syntax.specs.declared.parse_fault.ParseFault.{ParseFault}
use Rattle.jmes_syntax.specs.declared.parse_fault.ParseFault.TheVariants.{OutOfMemory}

abbrev pub is_memory : ParseFault → Bool
is_memory OutOfMemory = true
is_memory fault = false
