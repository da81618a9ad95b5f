-- Reading tokens from the left: a part gives its value and the tokens behind it, or the fault, with
-- how many tokens are left at its place.
use Rattle.std.specs.Prelude.{◌≡◌, ℕ, List, Option, None, Some, Result, Ok, Err}
use Rattle.jmes_syntax.specs.declared.stop.Stop.{Stop}
use Rattle.jmes_syntax.specs.declared.stop.Stop.TheVariants.{Syntax, UnknownFunction, Arity, OutOfMemory}
use Rattle.jmes_syntax.specs.declared.token.Token.{Token}

-- what reading a part gives
abbrev pub Read : Type 0 → Type 0
Read A = Result (A × List Token) Stop

-- the same with another value
abbrev pub made : {A B : Type 0} → (A → B) → Read A → Read B
made f (Ok x) = Ok (f x.0, x.1)
made f (Err stop) = Err stop

-- how many tokens are left at a fault
abbrev pub left_of : Stop → ℕ
left_of (Syntax left) = left
left_of (UnknownFunction left) = left
left_of (Arity left) = left
left_of OutOfMemory = 0

-- this fact of a fault; want of memory is left open
abbrev pub Stops : (Stop → Type 0) → Stop → Type 0
Stops P OutOfMemory = Unit {0}
Stops P (Syntax left) = P (Syntax left)
Stops P (UnknownFunction left) = P (UnknownFunction left)
Stops P (Arity left) = P (Arity left)

-- what a call found, seen by a view
abbrev pub seen : {X A : Type 0} → (X → A) → Option X → Option A
seen view (Some x) = Some (view x)
seen view None = None

-- what was found, and this behind it
abbrev pub followed : {A B : Type 0} → Option A → B → Option (A × B)
followed None y = None
followed (Some x) y = Some (x, y)

-- the first that was found
abbrev pub or_else : {A : Type 0} → Option A → Option A → Option A
or_else None y = y
or_else (Some x) y = Some x
