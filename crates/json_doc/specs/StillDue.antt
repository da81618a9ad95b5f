-- What is still due of a JSON text inside brackets that are open, the innermost first.
use Rattle.std.specs.Prelude.{ℕ, ◌↔◌, List, [], ◌∷◌, Option, None, Some}
use Rattle.json_doc.specs.declared.brackets.Bracket.{Bracket}
use Rattle.json_doc.specs.declared.brackets.Bracket.TheVariants.{Array, Object}
use Rattle.json_doc.specs.Grammar.{Ws, Structural}
use Rattle.json_doc.specs.JsonTexts.{Value, Member}
use Rattle.json_doc.specs.Scan.{skipped}

-- behind a value: each bracket is closed, perhaps behind more values or members, and the text ends
pub data Closes : List Bracket → List ℕ → Type 0 where
  ended : {bs : List ℕ} → Ws bs [] → Closes [] bs
  array_ends : {outer : List Bracket} {bs rest : List ℕ} → Structural 0x5D bs rest → Closes outer rest → Closes (Array ∷ outer) bs
  next_value : {outer : List Bracket} {bs vs rest : List ℕ} → Structural 0x2C bs vs → Value vs rest → Closes (Array ∷ outer) rest → Closes (Array ∷ outer) bs
  object_ends : {outer : List Bracket} {bs rest : List ℕ} → Structural 0x7D bs rest → Closes outer rest → Closes (Object ∷ outer) bs
  next_member : {outer : List Bracket} {bs ms rest : List ℕ} → Structural 0x2C bs ms → Member ms rest → Closes (Object ∷ outer) rest → Closes (Object ∷ outer) bs

-- before a value, perhaps behind blanks
abbrev pub Opens : List Bracket → List ℕ → Type 0
Opens outer bs = (rest : List ℕ) × Value (skipped bs) rest × Closes outer rest

-- A value that begins here is read to its end; or up to the first value inside it, in its bracket.
abbrev pub Begins : List ℕ → Option Bracket → List ℕ → Type 0
Begins bs None rest = (outer : List Bracket) → Opens outer bs ↔ Closes outer rest
Begins bs (Some b) rest = (outer : List Bracket) → Opens outer bs ↔ Opens (b ∷ outer) rest

-- Behind a value in this bracket, it is closed; or it stays open and the next value is due.
abbrev pub GoesOn : Bracket → List ℕ → Option Bracket → List ℕ → Type 0
GoesOn b bs None rest = (outer : List Bracket) → Closes (b ∷ outer) bs ↔ Closes outer rest
GoesOn b bs (Some c) rest = (outer : List Bracket) → Closes (b ∷ outer) bs ↔ Opens (c ∷ outer) rest
