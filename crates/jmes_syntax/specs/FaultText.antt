-- What a fault of an expression says of itself.
use Rattle.std.specs.Prelude.{ℕ, List, ◌++◌, codes}
use Rattle.std.specs.Fmt.{decimal}
use Rattle.jmes_syntax.specs.declared.parse_fault.ParseFault.{ParseFault}
use Rattle.jmes_syntax.specs.declared.parse_fault.ParseFault.TheVariants.{Syntax, UnknownFunction, Arity, OutOfMemory}

abbrev pub fault_text : ParseFault → List ℕ
fault_text (Syntax at) = codes "No expression at byte " ++ decimal at
fault_text (UnknownFunction at) = codes "Unknown function at byte " ++ decimal at
fault_text (Arity at) = codes "Wrong number of arguments at byte " ++ decimal at
fault_text OutOfMemory = codes "Out of memory"
