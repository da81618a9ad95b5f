-- Why a search of the files gives nothing, and what tells that a cause of the outside was there.
use Rattle.std.specs.Prelude.{ℕ, ◌≤◌, List, Result, Ok, Err, IfErr}
use Rattle.aws_world.specs.Told.{Rose}
use Rattle.model_store.specs.declared.fault.Unread.{Unread}
use Rattle.model_store.specs.declared.fault.Unread.TheVariants.{UnknownService, BadModel, FileFault, OutOfMemory}

-- a file or a folder could not be read
abbrev pub IsFileFault : Unread → Type 0
IsFileFault (FileFault path) = Unit {0}
IsFileFault _ = ⊥

-- the files' count never falls, and a fault of a file comes only where it rose
pub record HasFileCause {T : Type 0} (before now : ℕ) (result : Result T Unread) : Type 0 where
  pub later : before ≤ now
  pub failed : IfErr result (λ e. IsFileFault e → Rose before now)

-- what could not be read stands at a path of this kind
abbrev pub FailsOnlyAt : (List ℕ → Type 0) → Unread → Type 0
FailsOnlyAt P (FileFault path) = P path
FailsOnlyAt P _ = Unit {0}

-- What is due is answered, the value seen by a view, unless a file could not be read or memory was
-- wanting.
abbrev pub AnswersIfRead : {X A : Type 0} → (X → A) → (Result A Unread → Type 0) → Result X Unread → Type 0
AnswersIfRead view IsDue (Ok x) = IsDue (Ok (view x))
AnswersIfRead view IsDue (Err (UnknownService service)) = IsDue (Err (UnknownService service))
AnswersIfRead view IsDue (Err (BadModel file place)) = IsDue (Err (BadModel file place))
AnswersIfRead view IsDue (Err (FileFault path)) = Unit {0}
AnswersIfRead view IsDue (Err OutOfMemory) = Unit {0}
