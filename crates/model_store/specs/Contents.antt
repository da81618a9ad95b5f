-- What a model file says, by the reader of its kind, or the place of what is wrong with it.
use Rattle.std.specs.Prelude.{◌≡◌, ◌⊎◌, ℕ, List, Option, None, Some, Result, Ok, Err, codes}
use Rattle.json_doc.specs.declared.doc.Doc.{Doc}
use Rattle.json_doc.specs.Grammar.{Reads}
use Rattle.model_files.specs.declared.fault.ModelFault.{ModelFault}
use Rattle.model_files.specs.declared.fault.ModelFault.TheVariants.{Missing, UnknownShape, WrongKind, Collides, OutOfMemory}
use Rattle.model_files.specs.declared.paginators.NamedRow.{NamedRow}
use Rattle.model_files.specs.declared.waiters.WaiterRow.{WaiterRow}
use Rattle.model_files.specs.FaultText.{place_text}
use Rattle.model_files.specs.Paginators.{paginators_of}
use Rattle.model_files.specs.Waiters.{waiters_of}
use Rattle.rule_sets.specs.declared.fault.RuleFault.{RuleFault}
use Rattle.rule_sets.specs.declared.fault.RuleFault.TheVariants.{Bad, OutOfMemory as no_memory}
use Rattle.rule_sets.specs.declared.partitions.Partition.{Partition}
use Rattle.rule_sets.specs.Partitions.{partitions_of}
use Rattle.rule_sets.specs.Rules.{Rules, rules_of}
use Rattle.service_model.specs.declared.model.Table.{Table}
use Rattle.service_model.specs.Models.{IsRead}
use Rattle.model_store.specs.declared.fault.Unread.{Unread}
use Rattle.model_store.specs.declared.fault.Unread.TheVariants.{BadModel}
use Rattle.model_store.specs.declared.searching.ModelFile.{ModelFile}
use Rattle.model_store.specs.declared.searching.ModelFile.TheVariants.{Whole, TooLong}

-- the place of a fault, its keys and positions joined by dots; want of memory has none
abbrev pub place_of : ModelFault → Option (List ℕ)
place_of (Missing place) = Some (place_text place)
place_of (UnknownShape place) = Some (place_text place)
place_of (WrongKind place) = Some (place_text place)
place_of (Collides place) = Some (place_text place)
place_of OutOfMemory = None

abbrev pub rule_place_of : RuleFault → Option (List ℕ)
rule_place_of (Bad place) = Some place
rule_place_of no_memory = None

-- what was read, with the place of a fault for the fault
abbrev pub IsPlaced : {A E : Type 0} → (E → Option (List ℕ)) → Result A E → Result A (List ℕ) → Type 0
IsPlaced place (Ok x) said = said ≡ Ok x
IsPlaced place (Err fault) (Ok x) = ⊥
IsPlaced place (Err fault) (Err at) = place fault ≡ Some at

-- what a document of each kind says, or the place of its first fault

abbrev pub SaysModel : Doc → Result Table (List ℕ) → Type 0
SaysModel doc said = (read : Result Table ModelFault) × IsRead doc read × IsPlaced place_of read said

abbrev pub SaysPaginators : Doc → Result (List NamedRow) (List ℕ) → Type 0
SaysPaginators doc said = IsPlaced place_of (paginators_of doc) said

abbrev pub SaysWaiters : Doc → Result (List WaiterRow) (List ℕ) → Type 0
SaysWaiters doc said = IsPlaced place_of (waiters_of doc) said

abbrev pub SaysRules : Doc → Result Rules (List ℕ) → Type 0
SaysRules doc said = IsPlaced rule_place_of (rules_of doc) said

abbrev pub SaysPartitions : Doc → Result (List Partition) (List ℕ) → Type 0
SaysPartitions doc said = IsPlaced rule_place_of (partitions_of doc) said

-- what bytes say, where their documents say this: bytes that are no JSON have a fault in place of it
abbrev pub IsSaid : {A : Type 0} → (Doc → Result A (List ℕ) → Type 0) → List ℕ → Result A (List ℕ) → Type 0
IsSaid Says bytes said =
    (((doc : Doc) → Reads bytes doc → ⊥) × (said ≡ Err (codes "json"))) ⊎ ((doc : Doc) × Reads bytes doc × Says doc said)

-- what a file says, where documents say this
abbrev pub IsSaidBy : {A : Type 0} → (Doc → Result A (List ℕ) → Type 0) → ModelFile → Result A (List ℕ) → Type 0
IsSaidBy Says TooLong said = said ≡ Err (codes "too long")
IsSaidBy Says (Whole bytes) said = IsSaid Says bytes said

-- what a file of this name says, as an answer: its value by a view, or the name with the place of the
-- fault
abbrev pub answered : {A B : Type 0} → List ℕ → (A → B) → Result A (List ℕ) → Result B Unread
answered name view (Ok x) = Ok (view x)
answered name view (Err place) = Err (BadModel name place)

-- what is due of a file of this name, where documents say this
abbrev pub Gives : {A B : Type 0} → List ℕ → (Doc → Result A (List ℕ) → Type 0) → (A → B) → ModelFile → Result B Unread → Type 0
Gives {A} name Says view file due = (said : Result A (List ℕ)) × IsSaidBy Says file said × (due ≡ answered name view said)
