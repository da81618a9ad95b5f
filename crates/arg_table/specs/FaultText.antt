-- What is told of a faulty line, in UTF-8.
use Rattle.std.specs.Prelude.{ℕ, List, ◌++◌, if◌then◌else◌, map, bytes_eq, codes, encode_utf8_all}
use Rattle.arg_table.specs.declared.fault.UsageFault.{UsageFault}
use Rattle.arg_table.specs.declared.fault.UsageFault.TheVariants.{UnknownOption, MissingValue, NoCommand, UnknownService, UnknownOperation, UnknownArgument, MissingArguments, ExtraWord, BadChoice, BadCount, PaginateConflict, OutOfMemory}
use Rattle.texts.specs.Joined.{joined}

abbrev pub dashed : List ℕ → List ℕ
dashed name = codes "--" ++ encode_utf8_all name

-- an option's name; `self-drill` is a command
abbrev pub named : List ℕ → List ℕ
named name = if bytes_eq name (codes "self-drill") then codes "self-drill" else dashed name

abbrev pub usage_text : UsageFault → List ℕ
usage_text (UnknownOption name) = codes "Unknown options: " ++ dashed name
usage_text (MissingValue name) = codes "argument " ++ named name ++ codes ": expected one argument"
usage_text NoCommand = codes "too few arguments"
usage_text (UnknownService name) = codes "Invalid choice: '" ++ encode_utf8_all name ++ codes "'"
usage_text (UnknownOperation name) = codes "Invalid choice: '" ++ encode_utf8_all name ++ codes "'"
usage_text (UnknownArgument name) = codes "Unknown options: " ++ dashed name
usage_text (MissingArguments names) = codes "the following arguments are required: " ++ joined (codes ", ") (map dashed names)
usage_text (ExtraWord word) = codes "Unknown options: " ++ encode_utf8_all word
usage_text (BadChoice name) = codes "argument " ++ named name ++ codes ": invalid value"
usage_text (BadCount name) = codes "argument " ++ named name ++ codes ": invalid value"
usage_text (PaginateConflict name) = codes "Cannot specify --no-paginate along with pagination arguments: " ++ dashed name
usage_text OutOfMemory = codes "Out of memory"
