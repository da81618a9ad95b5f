-- What the laws say.
use Rattle.std.specs.Prelude.{◌≡◌, ℕ, List, Option, Some, Result}
use Rattle.model_files.specs.declared.paginators.NamedRow.{NamedRow}
use Rattle.model_files.specs.declared.waiters.WaiterRow.{WaiterRow}
use Rattle.rule_sets.specs.declared.partitions.Partition.{Partition}
use Rattle.rule_sets.specs.Rules.{Rules}
use Rattle.model_store.specs.declared.fault.Unread.{Unread}
use Rattle.model_store.specs.declared.finding.FoundModel.{FoundModel}
use Rattle.model_store.specs.declared.searching.Version.{Version}
use Rattle.model_store.specs.Due.{IsModelOf, ArePaginatorsOf, AreWaitersOf, AreRulesOf, ArePartitions, tail_of}
use Rattle.model_store.specs.Folders.{Held}
use Rattle.model_store.specs.Versions.{first_at, model_name, IsFileAt, IsNewest}

-- one thing at most is due
abbrev pub IsOne : {A : Type 0} → (Result A Unread → Type 0) → Type 0
IsOne {A} IsDue = (a b : Result A Unread) → IsDue a → IsDue b → a ≡ b

abbrev pub OneModelIsDue : Type 0
OneModelIsDue = (files : Held) (folders : List (List ℕ)) (service : List ℕ) → IsOne (IsModelOf (Some files) folders service)

abbrev pub OneFileIsDue : Type 0
OneFileIsDue = (files : Held) (folders : List (List ℕ)) (service version : List ℕ)
    → IsOne (ArePaginatorsOf (Some files) folders service version)
    × IsOne (AreWaitersOf (Some files) folders service version)
    × IsOne (AreRulesOf (Some files) folders service version)
    × IsOne (ArePartitions (Some files) folders)

-- the model file of the newest version is the first at its tail, as the other files of the version are
abbrev pub NewestIsFirst : Type 0
NewestIsFirst = (files : Held) (folders : List (List ℕ)) (service : List ℕ) (version : Version) → IsNewest files folders service (Some version)
    → IsFileAt (first_at files folders (tail_of service version.name model_name)) (Some version.file)
