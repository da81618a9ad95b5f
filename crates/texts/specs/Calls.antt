-- What calls give, beside what is due. A view shows the value of the code as that of the definitions.
use Rattle.std.specs.Prelude.{◌≡◌, Bool, true, false, Option, None, Some, Result, Ok, Err}

-- goes on with the value; a refusal stays
infixl 10 ◌>>=◌
abbrev pub ◌>>=◌ : {A B E : Type 0} → Result A E → (A → Result B E) → Result B E
(Ok x) >>= f = f x
(Err e) >>= f = Err e

-- what is due comes: the value, or the refusal
abbrev pub Gives : {X A E : Type 0} → (X → A) → Result X E → Result A E → Type 0
Gives view (Ok x) due = due ≡ Ok (view x)
Gives view (Err e) due = due ≡ Err e

-- a refusal that is free needs no reason
abbrev pub Unless : Bool → Type 0 → Type 0
Unless true reason = Unit {0}
Unless false reason = reason

-- what is due comes: the value, or the refusal, unless it is a free one, as want of memory is
abbrev pub Answers : {X A E : Type 0} → (E → Bool) → (X → A) → Result X E → Result A E → Type 0
Answers is_free view (Ok x) due = due ≡ Ok (view x)
Answers is_free view (Err e) due = Unless (is_free e) (due ≡ Err e)

-- what is there is found, or nothing where nothing is
abbrev pub Finds : {X A : Type 0} → (X → A) → Option X → Option A → Type 0
Finds view (Some x) due = due ≡ Some (view x)
Finds view None due = due ≡ None
