-- What faults of rules say of themselves.
use Rattle.std.specs.Prelude.{ℕ, List, ◌++◌, codes, encode_utf8_all}
use Rattle.rule_sets.specs.declared.fault.RuleFault.{RuleFault}
use Rattle.rule_sets.specs.declared.fault.RuleFault.TheVariants.{Bad, OutOfMemory}

abbrev pub rule_fault_text : RuleFault → List ℕ
rule_fault_text (Bad place) = codes "wrong value at " ++ encode_utf8_all place
rule_fault_text OutOfMemory = codes "out of memory"
