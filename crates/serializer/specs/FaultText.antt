-- What a fault says of itself.
use Rattle.std.specs.Prelude.{ℕ, List, ◌++◌, codes, encode_utf8_all}
use Rattle.serializer.specs.declared.encode_fault.EncodeFault.{EncodeFault}
use Rattle.serializer.specs.declared.encode_fault.EncodeFault.TheVariants.{EmptyLabel, BadHostLabel, TimeOutOfRange, BadHeaderText, OutOfMemory}

-- the member's name and what is wrong with it
abbrev pub of_member : List ℕ → List ℕ → List ℕ
of_member name kind = codes "Cannot encode member " ++ (encode_utf8_all name ++ kind)

abbrev pub fault_text : EncodeFault → List ℕ
fault_text (EmptyLabel name) = of_member name (codes ": EmptyLabel")
fault_text (BadHostLabel name) = of_member name (codes ": BadHostLabel")
fault_text (TimeOutOfRange name) = of_member name (codes ": TimeOutOfRange")
fault_text (BadHeaderText name) = of_member name (codes ": BadHeaderText")
fault_text OutOfMemory = codes "Out of memory"
