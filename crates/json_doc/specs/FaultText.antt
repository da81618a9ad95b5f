-- What a fault says of itself.
use Rattle.std.specs.Prelude.{ℕ, List, ◌++◌, codes}
use Rattle.std.specs.Fmt.{decimal}
use Rattle.json_doc.specs.declared.read_fault.ReadFault.{ReadFault}
use Rattle.json_doc.specs.declared.read_fault.ReadFault.TheVariants.{Syntax, TooDeep, NumberTooWide, OutOfMemory}

abbrev pub fault_text : ReadFault → List ℕ
fault_text (Syntax at) = codes "Not JSON at byte " ++ decimal at
fault_text (TooDeep at) = codes "Nested too deep at byte " ++ decimal at
fault_text (NumberTooWide at) = codes "Number too wide at byte " ++ decimal at
fault_text OutOfMemory = codes "Out of memory"
