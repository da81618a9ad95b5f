-- Which fault of a command line needs no reason.
use Rattle.std.specs.Prelude.{Bool, true, false}
use Rattle.arg_table.specs.declared.fault.UsageFault.{UsageFault}
use Rattle.arg_table.specs.declared.fault.UsageFault.TheVariants.{UnknownOption, MissingValue, NoCommand, UnknownService, UnknownOperation, UnknownArgument, MissingArguments, ExtraWord, BadChoice, BadCount, PaginateConflict, OutOfMemory}

-- want of memory: it may come at any call
abbrev pub is_memory : UsageFault → Bool
is_memory OutOfMemory = true
is_memory (UnknownOption name) = false
is_memory (MissingValue name) = false
is_memory NoCommand = false
is_memory (UnknownService name) = false
is_memory (UnknownOperation name) = false
is_memory (UnknownArgument name) = false
is_memory (MissingArguments names) = false
is_memory (ExtraWord word) = false
is_memory (BadChoice name) = false
is_memory (BadCount name) = false
is_memory (PaginateConflict name) = false
