-- The first bad place of a document, in the order in which its values stand. An absent key stands where its
-- object begins.
use Rattle.std.specs.Prelude.{ℕ, ◌+◌, Bool, true, false, List, [], ◌∷◌, Option, None, Some, Result, Ok, Err}
use Rattle.std.specs.Fmt.{decimal}
use Rattle.texts.specs.declared.pairs.Pair.{Pair}
use Rattle.texts.specs.Calls.{Answers}
use Rattle.texts.specs.Keys.{value_at}
use Rattle.model_files.specs.declared.fault.ModelFault.{ModelFault}
use Rattle.model_files.specs.declared.fault.ModelFault.TheVariants.{Missing, WrongKind}
use Rattle.model_files.specs.declared.fault.Place.TheVariants.{Whole, At}
use Rattle.model_files.specs.Faults.{inside, is_memory}

-- nothing is bad, or this fault tells the first bad place
abbrev pub Judged : Type 0
Judged = Result (Unit {0}) ModelFault

abbrev pub fine : Judged
fine = Ok tt

-- what is looked at is bad itself
abbrev pub bad : Judged
bad = Err (WrongKind Whole)

-- bad itself unless a test holds
abbrev pub fine_if : Bool → Judged
fine_if true = fine
fine_if false = bad

-- what the first says, where that isn't fine, else what the others say
abbrev pub first_of : Judged → Judged → Judged
first_of (Ok x) others = others
first_of (Err fault) others = Err fault

-- the first of these that isn't fine
abbrev pub first_bad : List Judged → Judged
first_bad [] = fine
first_bad (judged ∷ others) = first_of judged (first_bad others)

abbrev pub present : {A : Type 0} → List ℕ → Option A → Judged
present key None = Err (Missing (At key))
present key (Some x) = fine

-- a key that must be there
abbrev pub has_key : {A : Type 0} → List ℕ → List (Pair A) → Judged
has_key key fields = present key (value_at key fields)

-- the fields of an object in their order, each judged by its key
abbrev pub each_field : {A : Type 0} → (List ℕ → A → Judged) → List (Pair A) → Judged
each_field judge [] = fine
each_field judge (p ∷ ps) = first_of (inside p.key (judge p.key p.value)) (each_field judge ps)

-- the items of a list in their order, counted from a position on
abbrev pub each_item : {A : Type 0} → (A → Judged) → ℕ → List A → Judged
each_item judge at [] = fine
each_item judge at (x ∷ xs) = first_of (inside (decimal at) (judge x)) (each_item judge (at + 1) xs)

-- a call passes, or tells the first bad place; want of memory is free
abbrev pub Judges : Result (Unit {0}) ModelFault → Judged → Type 0
Judges result due = Answers is_memory (λ x. x) result due
