-- Facts on what an object tells.
use Rattle.std.proofs.Common.{◌≡◌, List, ℕ, Option, None, Some, Result, Ok, Err, subst}
use Rattle.std.specs.Prelude.{IfOk, IfErr, IfSome}
use Rattle.model_store.specs.declared.fault.Unread.{Unread}
use Rattle.model_store.specs.declared.fault.Unread.TheVariants.{UnknownService, BadModel, FileFault, OutOfMemory}
use Rattle.model_store.specs.Inside.{FaultsAt}

-- a fact on what is told gives another
pub told : {A : Type 0} (P Q : A → Type 0) (o : Option A) → IfSome o P → ((x : A) → P x → Q x) → IfSome o Q
told P Q None f give = tt
told P Q (Some x) f give = give x f

-- a fact of whatever is told
pub always_told : {A : Type 0} (P : A → Type 0) (o : Option A) → ((x : A) → P x) → IfSome o P
always_told P None here = tt
always_told P (Some x) here = here x

-- two facts on what is told give a third
pub both_told : {A : Type 0} (P Q R : A → Type 0) (o p : Option A) → p ≡ o → IfSome o P → IfSome p Q → ((x : A) → P x → Q x → R x) → IfSome o R
both_told P Q R None p e f g both = tt
both_told P Q R (Some x) p e f g both = both x f (subst (λ q. IfSome q Q) e g)

-- a fault at a path of one kind is at one of another
pub fault_at : (P Q : List ℕ → Type 0) (refusal : Unread) → FaultsAt P refusal → ((path : List ℕ) → P path → Q path) → FaultsAt Q refusal
fault_at P Q (UnknownService service) fault give = absurd fault
fault_at P Q (BadModel file place) fault give = absurd fault
fault_at P Q (FileFault path) fault give = give path fault
fault_at P Q OutOfMemory fault give = tt

pub other_path : {T : Type 0} (P Q : List ℕ → Type 0) (result : Result T Unread) → IfErr result (FaultsAt P) → ((path : List ℕ) → P path → Q path) → IfErr result (FaultsAt Q)
other_path P Q (Ok x) fault give = tt
other_path P Q (Err refusal) fault give = fault_at P Q refusal fault give

-- what holds of an answer that is there
pub if_ok : {T E : Type 0} (P Q : T → Type 0) (result : Result T E) → IfOk result P → ((x : T) → P x → Q x) → IfOk result Q
if_ok P Q (Ok x) fact give = give x fact
if_ok P Q (Err e) fact give = tt
