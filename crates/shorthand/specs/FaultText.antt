-- The text of a fault.
use Rattle.std.specs.Prelude.{ℕ, List, ◌++◌, codes}
use Rattle.std.specs.Fmt.{decimal}
use Rattle.shorthand.specs.declared.fault.ShortFault.{ShortFault}
use Rattle.shorthand.specs.declared.fault.ShortFault.TheVariants.{At, OutOfMemory}

abbrev pub fault_text : ShortFault → List ℕ
fault_text (At n) = codes "No shorthand at byte " ++ decimal n
fault_text OutOfMemory = codes "Out of memory"
