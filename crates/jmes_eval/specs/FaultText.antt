-- What a fault says of itself.
use Rattle.std.specs.Prelude.{ℕ, List, codes}
use Rattle.jmes_eval.specs.declared.query_fault.QueryFault.{QueryFault}
use Rattle.jmes_eval.specs.declared.query_fault.QueryFault.TheVariants.{TypeFault, NumberTooWide, OutOfMemory}

abbrev pub fault_text : QueryFault → List ℕ
fault_text TypeFault = codes "A function doesn't take a value of this kind"
fault_text NumberTooWide = codes "Number too wide"
fault_text OutOfMemory = codes "Out of memory"
