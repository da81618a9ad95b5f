-- What is due of each of the files of a service.
use Rattle.std.specs.Prelude.{◌≡◌, ℕ, List, Option, None, Some, Result, Ok, Err, IfSome, codes}
use Rattle.json_doc.specs.declared.doc.Doc.{Doc}
use Rattle.model_files.specs.declared.paginators.NamedRow.{NamedRow}
use Rattle.model_files.specs.declared.waiters.WaiterRow.{WaiterRow}
use Rattle.rule_sets.specs.declared.partitions.Partition.{Partition}
use Rattle.rule_sets.specs.Rules.{Rules}
use Rattle.service_model.specs.declared.model.Table.{Table}
use Rattle.model_store.specs.declared.fault.Unread.{Unread}
use Rattle.model_store.specs.declared.fault.Unread.TheVariants.{UnknownService, BadModel}
use Rattle.model_store.specs.declared.finding.FoundModel.{FoundModel}
use Rattle.model_store.specs.declared.searching.ModelFile.{ModelFile}
use Rattle.model_store.specs.declared.searching.Version.{Version}
use Rattle.model_store.specs.Contents.{Gives, SaysModel, SaysPaginators, SaysWaiters, SaysRules, SaysPartitions}
use Rattle.model_store.specs.Folders.{Held}
use Rattle.model_store.specs.Versions.{below, first_at, model_name, IsFileAt, IsNewest}

abbrev pub found_at : List ℕ → Table → FoundModel
found_at version model = record { version = version; model = model }

-- the model of a service, by its newest version
abbrev pub IsModelOfNewest : List ℕ → Option Version → Result FoundModel Unread → Type 0
IsModelOfNewest service None due = due ≡ Err (UnknownService service)
IsModelOfNewest service (Some version) due = Gives model_name SaysModel (found_at version.name) version.file due

-- the model of a service, or why there is none; of files that tell nothing, any may be its model file
abbrev pub IsModelOf : Option Held → List (List ℕ) → List ℕ → Result FoundModel Unread → Type 0
IsModelOf held folders service due =
    (newest : Option Version) × IfSome held (λ files. IsNewest files folders service newest) × IsModelOfNewest service newest due

-- what is due of the file at a tail below the first folder that has one; of files that tell nothing,
-- any may stand there
abbrev pub IsDueAt : {A : Type 0} → (Option ModelFile → Result A Unread → Type 0) → Option Held → List (List ℕ) → List ℕ → Result A Unread → Type 0
IsDueAt IsDue held folders tail due =
    (file : Option ModelFile) × IfSome held (λ files. IsFileAt (first_at files folders tail) file) × IsDue file due

-- a file of this name that may be absent
abbrev pub IfThere : {A : Type 0} → List ℕ → (Doc → Result A (List ℕ) → Type 0) → Option ModelFile → Result (Option A) Unread → Type 0
IfThere name Says None due = due ≡ Ok None
IfThere name Says (Some file) due = Gives name Says Some file due

-- a file of this name that must be there
abbrev pub MustBeThere : {A : Type 0} → List ℕ → (Doc → Result A (List ℕ) → Type 0) → Option ModelFile → Result A Unread → Type 0
MustBeThere name Says None due = due ≡ Err (BadModel name (codes "absent"))
MustBeThere name Says (Some file) due = Gives name Says (λ x. x) file due

-- where a file of a service's version stands below a folder
abbrev pub tail_of : List ℕ → List ℕ → List ℕ → List ℕ
tail_of service version name = below (below service version) name

abbrev pub paginators_name : List ℕ
paginators_name = codes "paginators-1.json"

abbrev pub waiters_name : List ℕ
waiters_name = codes "waiters-2.json"

abbrev pub rules_name : List ℕ
rules_name = codes "endpoint-rule-set-1.json"

abbrev pub partitions_name : List ℕ
partitions_name = codes "partitions.json"

-- the rows of a version's paginators: none where no folder has the file
abbrev pub ArePaginatorsOf : Option Held → List (List ℕ) → List ℕ → List ℕ → Result (Option (List NamedRow)) Unread → Type 0
ArePaginatorsOf held folders service version due =
    IsDueAt (IfThere paginators_name SaysPaginators) held folders (tail_of service version paginators_name) due

-- the waiters of a version: none where no folder has the file
abbrev pub AreWaitersOf : Option Held → List (List ℕ) → List ℕ → List ℕ → Result (Option (List WaiterRow)) Unread → Type 0
AreWaitersOf held folders service version due =
    IsDueAt (IfThere waiters_name SaysWaiters) held folders (tail_of service version waiters_name) due

-- the endpoint rules of a version: none where no folder has the file
abbrev pub AreRulesOf : Option Held → List (List ℕ) → List ℕ → List ℕ → Result (Option Rules) Unread → Type 0
AreRulesOf held folders service version due =
    IsDueAt (IfThere rules_name SaysRules) held folders (tail_of service version rules_name) due

-- the partitions of AWS, whose file must stand in some folder
abbrev pub ArePartitions : Option Held → List (List ℕ) → Result (List Partition) Unread → Type 0
ArePartitions held folders due = IsDueAt (MustBeThere partitions_name SaysPartitions) held folders partitions_name due
