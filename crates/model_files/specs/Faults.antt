-- Steps of reading a model file, one after another. The first fault ends them; its place is put
-- together from the inside out.
use Rattle.std.specs.Prelude.{◌≡◌, ℕ, ◌+◌, Bool, true, false, List, [], ◌∷◌, ◌++◌, Option, None, Some, Result, Ok, Err}
use Rattle.std.specs.Fmt.{decimal}
use Rattle.texts.specs.declared.pairs.Pair.{Pair}
use Rattle.texts.specs.Calls.{◌>>=◌, Unless}
use Rattle.model_files.specs.declared.fault.ModelFault.{ModelFault}
use Rattle.model_files.specs.declared.fault.ModelFault.TheVariants.{Missing, UnknownShape, WrongKind, Collides, OutOfMemory}
use Rattle.model_files.specs.declared.fault.Place.{Place}
use Rattle.model_files.specs.declared.fault.Place.TheVariants.{Whole, At}

-- the place at this place below a key: a dot joins them
abbrev pub below : List ℕ → Place → Place
below key Whole = At key
below key (At text) = At (key ++ 46 ∷ text)

-- a fault of what stands at the key, as a fault of the object that holds the key
abbrev pub moved : List ℕ → ModelFault → ModelFault
moved key (Missing place) = Missing (below key place)
moved key (UnknownShape place) = UnknownShape (below key place)
moved key (WrongKind place) = WrongKind (below key place)
moved key (Collides place) = Collides (below key place)
moved key OutOfMemory = OutOfMemory

-- what is read from what stands at the key
abbrev pub inside : {A : Type 0} → List ℕ → Result A ModelFault → Result A ModelFault
inside key (Ok x) = Ok x
inside key (Err fault) = Err (moved key fault)

-- a value that must be there
abbrev pub or_fault : {A : Type 0} → ModelFault → Option A → Result A ModelFault
or_fault fault None = Err fault
or_fault fault (Some x) = Ok x

-- the value under a condition
abbrev pub unless_fault : {A : Type 0} → Bool → ModelFault → A → Result A ModelFault
unless_fault true fault x = Ok x
unless_fault false fault x = Err fault

-- what is read from the value of each pair, in their order
abbrev pub each : {A B : Type 0} → (Pair A → Result B ModelFault) → List (Pair A) → Result (List B) ModelFault
each f [] = Ok []
each f (p ∷ ps) = do
  x ← inside p.key (f p)
  others ← each f ps
  Ok (x ∷ others)

-- what is read from each item, in their order, from the given position on
abbrev pub each_from : {A B : Type 0} → (A → Result B ModelFault) → ℕ → List A → Result (List B) ModelFault
each_from f at [] = Ok []
each_from f at (x ∷ xs) = do
  y ← inside (decimal at) (f x)
  others ← each_from f (at + 1) xs
  Ok (y ∷ others)

-- want of memory: it may come at any call
abbrev pub is_memory : ModelFault → Bool
is_memory OutOfMemory = true
is_memory (Missing place) = false
is_memory (UnknownShape place) = false
is_memory (WrongKind place) = false
is_memory (Collides place) = false

-- A call answers with a fault: the one that is due, or want of memory, which is free.
abbrev pub IsFault : ModelFault → ModelFault → Type 0
IsFault fault due = Unless (is_memory fault) (due ≡ fault)

-- what comes under a condition, whose failing is a fault
abbrev pub demand : {A : Type 0} → Bool → ModelFault → Result A ModelFault → Result A ModelFault
demand true fault others = others
demand false fault others = Err fault
