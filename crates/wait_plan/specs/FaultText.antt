-- What is said of a plan's fault.
use Rattle.std.specs.Prelude.{ℕ, List, ◌++◌, codes, encode_utf8_all}
use Rattle.wait_plan.specs.declared.fault.PlanFault.{PlanFault}
use Rattle.wait_plan.specs.declared.fault.PlanFault.TheVariants.{Bad, OutOfMemory}

abbrev pub fault_text : PlanFault → List ℕ
fault_text (Bad place) = codes "No expression at " ++ encode_utf8_all place
fault_text OutOfMemory = codes "Out of memory"
