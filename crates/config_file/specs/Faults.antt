-- Which fault of the settings needs no reason.
use Rattle.std.specs.Prelude.{Bool, true, false}
use Rattle.config_file.specs.declared.fault.ConfigFault.{ConfigFault}
use Rattle.config_file.specs.declared.fault.ConfigFault.TheVariants.{Syntax, ProfileAbsent, BadSetting, OutOfMemory}

-- want of memory: it may come at any call
abbrev pub is_memory : ConfigFault → Bool
is_memory OutOfMemory = true
is_memory (Syntax kind line) = false
is_memory (ProfileAbsent name) = false
is_memory (BadSetting name) = false
