-- What a query gives: a value, or the fault that is met first.
use Rattle.std.specs.Prelude.{Bool, true, false, List, [], ◌∷◌, Result, Ok, Err, Option, None, Some}
use Rattle.json_doc.specs.declared.decimal.Decimal.{Decimal}
use Rattle.json_doc.specs.declared.doc.Doc as doc
use Rattle.json_doc.specs.declared.doc.Doc.{Doc}
use Rattle.jmes_eval.specs.declared.query_fault.QueryFault.{QueryFault}
use Rattle.jmes_eval.specs.declared.query_fault.QueryFault.TheVariants.{TypeFault, NumberTooWide, OutOfMemory}

abbrev pub Answer : Type 0 → Type 0
Answer A = Result A QueryFault

-- want of memory: it may come at any call
abbrev pub is_memory : QueryFault → Bool
is_memory OutOfMemory = true
is_memory TypeFault = false
is_memory NumberTooWide = false

-- what a function takes, which a value of another kind doesn't have ("Functions Expressions": an
-- invalid type is a fault)
abbrev pub due : {A : Type 0} → Option A → Answer A
due None = Err TypeFault
due (Some x) = Ok x

-- a number, which is to be a decimal
abbrev pub as_number : Option Decimal → Answer Doc
as_number None = Err NumberTooWide
as_number (Some n) = Ok (doc.Number n)

abbrev pub in_front : {A : Type 0} → Option A → Option (List A) → Option (List A)
in_front None xs = None
in_front (Some x) None = None
in_front (Some x) (Some xs) = Some (x ∷ xs)

-- the views of all of these, where each has one
abbrev pub all_of : {A B : Type 0} → (A → Option B) → List A → Option (List B)
all_of view [] = Some []
all_of view (x ∷ xs) = in_front (view x) (all_of view xs)
