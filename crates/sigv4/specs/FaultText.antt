-- What a fault says of itself.
use Rattle.std.specs.Prelude.{ℕ, List, ◌++◌, codes}
use Rattle.std.specs.Fmt.{signed_decimal}
use Rattle.sigv4.specs.declared.sign_fault.SignFault.{SignFault}
use Rattle.sigv4.specs.declared.sign_fault.SignFault.TheVariants.{BadClock, OutOfMemory}

abbrev pub fault_text : SignFault → List ℕ
fault_text (BadClock now) = codes "No date for the moment " ++ signed_decimal now
fault_text OutOfMemory = codes "Out of memory"
