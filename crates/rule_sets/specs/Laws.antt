-- What the laws say.
use Rattle.std.specs.Prelude.{◌≡◌, ℕ, ◌⊎◌, List, Ok, Err}
use Rattle.json_doc.specs.declared.doc.Doc.{Doc}
use Rattle.rule_sets.specs.declared.fault.RuleFault.TheVariants.{Bad}
use Rattle.rule_sets.specs.declared.partitions.Partition.{Partition}
use Rattle.rule_sets.specs.Partitions.{partitions_of}
use Rattle.rule_sets.specs.Rules.{Rules, rules_of}

-- a rule set is read as one list of leaves, or has one first bad place
abbrev pub RulesHaveOutcome : Type 0
RulesHaveOutcome = (doc : Doc) → ((rules : Rules) × (rules_of doc ≡ Ok rules)) ⊎ ((place : List ℕ) × (rules_of doc ≡ Err (Bad place)))

abbrev pub PartitionsHaveOutcome : Type 0
PartitionsHaveOutcome = (doc : Doc)
    → ((partitions : List Partition) × (partitions_of doc ≡ Ok partitions)) ⊎ ((place : List ℕ) × (partitions_of doc ≡ Err (Bad place)))
