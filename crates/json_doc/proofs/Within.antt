-- What is behind a part, or left at its fault, is no longer than the part's bytes.
use Rattle.std.proofs.Common.{ℕ, ◌≤◌, Bool, true, false, if◌then◌else◌, List, length, Result, Ok, Err, arith}
use Rattle.json_doc.specs.declared.stop.Stop.{Stop}
use Rattle.json_doc.specs.declared.stop.Stop.TheVariants.{Syntax, TooDeep, NumberTooWide, OutOfMemory}
use Rattle.json_doc.specs.Reading.{Read}
use Rattle.texts.specs.Calls.{◌>>=◌}

-- how many bytes are left at a fault
abbrev pub left_of : Stop → ℕ
left_of (Syntax left) = left
left_of (TooDeep left) = left
left_of (NumberTooWide left) = left
left_of OutOfMemory = 0

abbrev pub Within : {A : Type 0} → List ℕ → Read A → Type 0
Within bs (Ok x) = length x.1 ≤ length bs
Within bs (Err stop) = left_of stop ≤ length bs

-- the same of bytes alone
abbrev pub Left : List ℕ → Result (List ℕ) Stop → Type 0
Left bs (Ok rest) = length rest ≤ length bs
Left bs (Err stop) = left_of stop ≤ length bs

pub either : {A : Type 0} (P : A → Type 0) (b : Bool) (x y : A) → P x → P y → P (if b then x else y)
either P b x y p q = elim b as (λ v. P (if v then x else y)) [ true ↦ p | false ↦ q ]

pub wider : {A : Type 0} (bs cs : List ℕ) (o : Read A) → length bs ≤ length cs → Within bs o → Within cs o
wider bs cs (Ok x) le h = omega arith
wider bs cs (Err stop) le h = omega arith

pub bind-within : {A B : Type 0} (bs : List ℕ) (r : Read A) (f : A × List ℕ → Read B) → Within bs r → ((x : A × List ℕ) → Within x.1 (f x)) → Within bs (r >>= f)
bind-within bs (Ok x) f h g = wider x.1 bs (f x) h (g x)
bind-within bs (Err stop) f h g = h
