-- Reading from the left: a part gives its value and the bytes behind it, or the fault, with how many
-- bytes are left at its place.
use Rattle.std.specs.Prelude.{ℕ, if◌then◌else◌, List, [], ◌∷◌, length, Result, Ok, Err}
use Rattle.std.specs.Int.{is_in_range}
use Rattle.json_doc.specs.declared.stop.Stop.{Stop}
use Rattle.json_doc.specs.declared.stop.Stop.TheVariants.{Syntax, TooDeep, NumberTooWide, OutOfMemory}

-- what reading a part gives
abbrev pub Read : Type 0 → Type 0
Read A = Result (A × List ℕ) Stop

-- this fact of a fault; want of memory is left open
abbrev pub Stops : (Stop → Type 0) → Stop → Type 0
Stops P OutOfMemory = Unit {0}
Stops P (Syntax left) = P (Syntax left)
Stops P (TooDeep left) = P (TooDeep left)
Stops P (NumberTooWide left) = P (NumberTooWide left)

-- the byte in front, which is to be in this range
unfoldable pub byte_in : ℕ → ℕ → List ℕ → Read ℕ
byte_in low high [] = Err (Syntax 0)
byte_in low high (b ∷ bs) = if is_in_range low high b then Ok (b, bs) else Err (Syntax (length (b ∷ bs)))
