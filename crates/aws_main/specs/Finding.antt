-- Steps that may find nothing, one after another, and the calls that answer what they find.
use Rattle.std.specs.Prelude.{◌≡◌, Bool, true, false, List, [], ◌∷◌, Option, None, Some, Result, Ok, Err, option_and_then}
use Rattle.aws_main.specs.declared.causes.Unbuilt.{Unbuilt}
use Rattle.aws_main.specs.declared.causes.Unbuilt.TheVariants.{NotBuilt, OutOfMemory}

infixl 10 ◌>>=◌
abbrev pub ◌>>=◌ : {A B : Type 0} → Option A → (A → Option B) → Option B
found >>= f = option_and_then f found

-- the value under a condition
abbrev pub when : {A : Type 0} → Bool → Option A → Option A
when true found = found
when false found = None

-- what is found for each, where it is found for all of them
abbrev pub each : {A B : Type 0} → (A → Option B) → List A → Option (List B)
each f [] = Some []
each f (x ∷ xs) = do
  y ← f x
  ys ← each f xs
  Some (y ∷ ys)

-- A call answers this, seen by a view: what is due, or a refusal where nothing is due. Only want of
-- memory is free.
abbrev pub Finds : {T U : Type 0} → (T → U) → Option U → Result T Unbuilt → Type 0
Finds view due (Ok x) = due ≡ Some (view x)
Finds view due (Err NotBuilt) = due ≡ None
Finds view due (Err OutOfMemory) = Unit {0}
