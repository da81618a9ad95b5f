-- What a fault of a model file says of itself.
use Rattle.std.specs.Prelude.{ℕ, List, [], ◌++◌, codes, encode_utf8_all}
use Rattle.model_files.specs.declared.fault.ModelFault.{ModelFault}
use Rattle.model_files.specs.declared.fault.ModelFault.TheVariants.{Missing, UnknownShape, WrongKind, Collides, OutOfMemory}
use Rattle.model_files.specs.declared.fault.Place.{Place}
use Rattle.model_files.specs.declared.fault.Place.TheVariants.{Whole, At}

-- the keys and positions that lead to a place, joined by dots
abbrev pub place_text : Place → List ℕ
place_text Whole = []
place_text (At text) = text

abbrev pub place_bytes : Place → List ℕ
place_bytes Whole = []
place_bytes (At text) = encode_utf8_all text

abbrev pub fault_text : ModelFault → List ℕ
fault_text (Missing place) = codes "nothing at " ++ place_bytes place
fault_text (UnknownShape place) = codes "no such shape at " ++ place_bytes place
fault_text (WrongKind place) = codes "wrong value at " ++ place_bytes place
fault_text (Collides place) = codes "second command of the name at " ++ place_bytes place
fault_text OutOfMemory = codes "out of memory"
