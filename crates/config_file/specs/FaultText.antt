-- What a fault of the settings says of itself.
use Rattle.std.specs.Prelude.{ℕ, List, ◌++◌, codes, encode_utf8_all}
use Rattle.std.specs.Fmt.{decimal}
use Rattle.config_file.specs.declared.fault.ConfigFault.{ConfigFault}
use Rattle.config_file.specs.declared.fault.ConfigFault.TheVariants.{Syntax, ProfileAbsent, BadSetting, OutOfMemory}
use Rattle.config_file.specs.declared.fault.FileKind.{FileKind}
use Rattle.config_file.specs.declared.fault.FileKind.TheVariants.{Config, Credentials}

abbrev pub kind_text : FileKind → List ℕ
kind_text Config = codes "config"
kind_text Credentials = codes "credentials"

abbrev pub fault_text : ConfigFault → List ℕ
fault_text (Syntax kind line) = codes "Unable to parse " ++ kind_text kind ++ codes " file: line " ++ decimal line
fault_text (ProfileAbsent name) = codes "The config profile (" ++ encode_utf8_all name ++ codes ") could not be found"
fault_text (BadSetting name) = codes "Invalid value for setting " ++ encode_utf8_all name
fault_text OutOfMemory = codes "Out of memory"
