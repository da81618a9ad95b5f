-- What a fault says of itself.
use Rattle.std.specs.Prelude.{ℕ, List, ◌++◌, codes, encode_utf8_all}
use Rattle.shape_values.specs.declared.fault.ArgFault.{ArgFault}
use Rattle.shape_values.specs.declared.fault.ArgFault.TheVariants.{Bad, File, OutOfMemory}
use Rattle.shape_values.specs.declared.fault.ValueKind.{ValueKind}
use Rattle.shape_values.specs.declared.fault.ValueKind.TheVariants as kind

-- the name of what is wrong
abbrev pub kind_text : ValueKind → List ℕ
kind_text kind.Number = codes "Number"
kind_text kind.Time = codes "Time"
kind_text kind.Flag = codes "Flag"
kind_text (kind.Json at) = codes "Json"
kind_text (kind.Shorthand at) = codes "Shorthand"
kind_text kind.ExpectedOne = codes "ExpectedOne"
kind_text kind.NeedsJson = codes "NeedsJson"
kind_text kind.NotUtf8 = codes "NotUtf8"
kind_text (kind.FileAbsent path) = codes "FileAbsent"
kind_text (kind.FileTooLong path) = codes "FileTooLong"
kind_text kind.Float = codes "Float"
kind_text kind.NotAnObject = codes "NotAnObject"
kind_text kind.PagingSet = codes "PagingSet"

abbrev pub fault_text : ArgFault → List ℕ
fault_text (Bad path k) = codes "Error parsing parameter " ++ (encode_utf8_all path ++ (codes ": " ++ kind_text k))
fault_text (File path) = codes "Error reading " ++ encode_utf8_all path
fault_text OutOfMemory = codes "Out of memory"
