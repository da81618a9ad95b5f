-- Steps of which the first that is refused ends all, as relations: each says what may come of it.
use Rattle.std.specs.Prelude.{◌≡◌, ◌⊎◌, Result, Ok, Err}

-- what may come of a step
abbrev pub Step : Type 0 → Type 0 → Type 1
Step A E = Result A E → Type 0

-- this comes, and nothing else
abbrev pub Is : {A E : Type 0} → Result A E → Step A E
Is due answer = answer ≡ due

-- the refusal of the first step, or what comes of the second with the value of the first
abbrev pub Then : {A B E : Type 0} → Step A E → (A → Step B E) → Step B E
Then {A} {B} {E} First Second answer =
    ((e : E) × First (Err e) × (answer ≡ Err e)) ⊎ ((x : A) × First (Ok x) × Second x answer)

-- an answer of the code, which may also be that memory didn't suffice
abbrev pub Comes : {A E : Type 0} → E → Step A E → Step A E
Comes no_memory May (Ok x) = May (Ok x)
Comes no_memory May (Err e) = (e ≡ no_memory) ⊎ May (Err e)
