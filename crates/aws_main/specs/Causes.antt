-- Why a command ends, and what tells that a cause of the outside was there.
use Rattle.std.specs.Prelude.{◌≡◌, ℕ, ◌≤◌, List, ◌++◌, take, Result, IfErr}
use Rattle.aws_world.specs.Told.{Rose}
use Rattle.aws_main.specs.declared.causes.Cause.{Cause}
use Rattle.aws_main.specs.declared.causes.Cause.TheVariants.{Done, NotBuilt, Usage, BadModel, NotAdmitted, FileFault, Lost, OutFault, OutOfMemory}
use Rattle.aws_main.specs.declared.causes.Unbuilt.{Unbuilt}
use Rattle.aws_main.specs.declared.causes.Unbuilt.TheVariants.{NotBuilt as pure_not_built, OutOfMemory as pure_no_memory}
use Rattle.aws_main.specs.declared.causes.Unread.{Unread}
use Rattle.aws_main.specs.declared.causes.Unread.TheVariants.{NotBuilt as read_not_built, Usage as read_usage, BadModel as read_bad_model, NotAdmitted as read_not_admitted, FileFault as read_fault, OutOfMemory as read_no_memory}
use Rattle.aws_main.specs.declared.causes.UsageFault.TheVariants.{UnknownService}
use Rattle.model_store.specs.declared.fault.Unread.{Unread as NoModel}
use Rattle.model_store.specs.declared.fault.Unread.TheVariants.{UnknownService as no_service, BadModel as bad_model, FileFault as no_file, OutOfMemory as no_model_memory}
use Rattle.aws_main.specs.declared.causes.Unanswered.{Unanswered}
use Rattle.aws_main.specs.declared.causes.Unanswered.TheVariants.{NotBuilt as answer_not_built, Lost as answer_lost, OutOfMemory as answer_no_memory}

-- the exit status
abbrev pub status_of : Cause → ℕ
status_of Done = 0
status_of (Usage fault) = 2
status_of _ = 255

abbrev pub IsFileFault : Cause → Type 0
IsFileFault (FileFault path) = Unit {0}
IsFileFault _ = ⊥

abbrev pub IsLost : Cause → Type 0
IsLost (Lost fault) = Unit {0}
IsLost _ = ⊥

abbrev pub IsOutFault : Cause → Type 0
IsOutFault OutFault = Unit {0}
IsOutFault _ = ⊥

-- what a part's refusal is as the refusal of a larger part
abbrev pub unread_of : Unbuilt → Unread
unread_of pure_not_built = read_not_built
unread_of pure_no_memory = read_no_memory

abbrev pub unread_by : NoModel → Unread
unread_by (no_service service) = read_usage (UnknownService service)
unread_by (bad_model file place) = read_bad_model file place
unread_by (no_file path) = read_fault path
unread_by no_model_memory = read_no_memory

abbrev pub unanswered_of : Unbuilt → Unanswered
unanswered_of pure_not_built = answer_not_built
unanswered_of pure_no_memory = answer_no_memory

abbrev pub cause_of_unread : Unread → Cause
cause_of_unread read_not_built = NotBuilt
cause_of_unread (read_usage fault) = Usage fault
cause_of_unread (read_bad_model file place) = BadModel file place
cause_of_unread (read_not_admitted refusal) = NotAdmitted refusal
cause_of_unread (read_fault path) = FileFault path
cause_of_unread read_no_memory = OutOfMemory

abbrev pub cause_of_unanswered : Unanswered → Cause
cause_of_unanswered answer_not_built = NotBuilt
cause_of_unanswered (answer_lost fault) = Lost fault
cause_of_unanswered answer_no_memory = OutOfMemory

-- the files' count never falls, and a fault of a file comes only where it rose
pub record HasFileCause {T : Type 0} (before now : ℕ) (result : Result T Unread) : Type 0 where
  pub later : before ≤ now
  pub failed : IfErr result (λ e. IsFileFault (cause_of_unread e) → Rose before now)

-- the link's count never falls, and a lost exchange comes only where it rose
pub record HasLinkCause {T : Type 0} (before now : ℕ) (result : Result T Unanswered) : Type 0 where
  pub later : before ≤ now
  pub failed : IfErr result (λ e. IsLost (cause_of_unanswered e) → Rose before now)

-- a front of the bytes was put at the end
abbrev pub GainsFront : List ℕ → List ℕ → List ℕ → Type 0
GainsFront bytes before after = (n : ℕ) × (after ≡ before ++ take n bytes)

-- a refusal is this one, or want of memory, which is free
abbrev pub Refuses : Unread → Unread → Type 0
Refuses due read_no_memory = Unit {0}
Refuses due refusal = refusal ≡ due
