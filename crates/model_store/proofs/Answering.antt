-- From what a file gives to the answer of a search.
use Rattle.std.proofs.Common.{◌≡◌, ℕ, ◌≤◌, List, Option, None, Some, Result, Ok, Err, refl, sym, ap, ◌∙◌, subst}
use Rattle.std.specs.Prelude.{IfErr, IfSome}
use Rattle.model_store.specs.declared.fault.Unread.{Unread}
use Rattle.model_store.specs.declared.fault.Unread.TheVariants.{UnknownService, BadModel, FileFault, OutOfMemory}
use Rattle.model_store.specs.declared.searching.ModelFile.{ModelFile}
use Rattle.model_store.specs.Due.{IsDueAt}
use Rattle.model_store.specs.Faults.{AnswersIfRead, FailsOnlyAt, HasFileCause}
use Rattle.model_store.specs.Folders.{Held}
use Rattle.model_store.specs.Inside.{AnswersAlways, FaultsAt}
use Rattle.model_store.specs.Versions.{first_at, IsFileAt, IsTailPath}

-- what is due of one thing is due of another
pub answers : {X A : Type 0} (seen : X → A) (IsDue IsSought : Result A Unread → Type 0) (result : Result X Unread) → ((due : Result A Unread) → IsDue due → IsSought due)
    → AnswersAlways seen IsDue result → AnswersIfRead seen IsSought result
answers seen IsDue IsSought (Ok x) give fact = give (Ok (seen x)) fact
answers seen IsDue IsSought (Err (UnknownService service)) give fact = give (Err (UnknownService service)) fact
answers seen IsDue IsSought (Err (BadModel file place)) give fact = give (Err (BadModel file place)) fact
answers seen IsDue IsSought (Err (FileFault path)) give fact = tt
answers seen IsDue IsSought (Err OutOfMemory) give fact = tt

-- a call that answers always has no fault of a file
pub no_path : {X A : Type 0} (seen : X → A) (IsDue : Result A Unread → Type 0) (P : List ℕ → Type 0) (result : Result X Unread) → AnswersAlways seen IsDue result
    → IfErr result (FailsOnlyAt P)
no_path seen IsDue P (Ok x) fact = tt
no_path seen IsDue P (Err (UnknownService service)) fact = tt
no_path seen IsDue P (Err (BadModel file place)) fact = tt
no_path seen IsDue P (Err (FileFault path)) fact = absurd fact
no_path seen IsDue P (Err OutOfMemory) fact = tt

pub no_fault : {X A : Type 0} (seen : X → A) (IsDue : Result A Unread → Type 0) (result : Result X Unread) (before now : ℕ) → before ≤ now → AnswersAlways seen IsDue result
    → HasFileCause before now result
no_fault seen IsDue (Ok x) before now later fact = record { later = later; failed = tt }
no_fault seen IsDue (Err (UnknownService service)) before now later fact = record { later = later; failed = λ fault. absurd fault }
no_fault seen IsDue (Err (BadModel file place)) before now later fact = record { later = later; failed = λ fault. absurd fault }
no_fault seen IsDue (Err (FileFault path)) before now later fact = absurd fact
no_fault seen IsDue (Err OutOfMemory) before now later fact = record { later = later; failed = λ fault. absurd fault }

-- a search that failed answers nothing
pub failed : {X A : Type 0} (seen : X → A) (IsSought : Result A Unread → Type 0) (P : List ℕ → Type 0) (refusal : Unread) → FaultsAt P refusal → AnswersIfRead seen IsSought (Err refusal)
failed seen IsSought P (UnknownService service) fact = absurd fact
failed seen IsSought P (BadModel file place) fact = absurd fact
failed seen IsSought P (FileFault path) fact = tt
failed seen IsSought P OutOfMemory fact = tt

failed_at : (P : List ℕ → Type 0) (refusal : Unread) → FaultsAt P refusal → FailsOnlyAt P refusal
failed_at P (UnknownService service) fact = tt
failed_at P (BadModel file place) fact = tt
failed_at P (FileFault path) fact = fact
failed_at P OutOfMemory fact = tt

-- it failed at a tail, by another name of the tail
pub failed_at_tail : (folders : List (List ℕ)) (read due_tail : List ℕ) (refusal : Unread) → read ≡ due_tail → FaultsAt (IsTailPath folders read) refusal
    → FailsOnlyAt (IsTailPath folders due_tail) refusal
failed_at_tail folders read due_tail refusal same fact = subst (λ tail. FailsOnlyAt (IsTailPath folders tail) refusal) same (failed_at (IsTailPath folders read) refusal fact)

-- what is due of the first file at a tail
pub due_at : {A : Type 0} (IsDue : Option ModelFile → Result A Unread → Type 0) (held : Option Held) (folders : List (List ℕ)) (read due_tail : List ℕ) (file : Option ModelFile)
    → read ≡ due_tail → IfSome held (λ files. IsFileAt (first_at files folders read) file) → (due : Result A Unread) → IsDue file due → IsDueAt IsDue held folders due_tail due
due_at IsDue held folders read due_tail file same found due is =
    (file, subst (λ tail. IfSome held (λ files. IsFileAt (first_at files folders tail) file)) same found, is)
