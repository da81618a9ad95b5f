use Rattle.std.proofs.Common.{◌^◌, ◌<◌, take}
use Rattle.std.specs.Str.Parse.{digits_value}
use Rattle.json_doc.specs.Trimmed.{IsCapped}
use Rattle.json_doc.proofs.capped.capped_value.Given as goal

-- the value of the digits so far
abbrev pub invariant-loop-b : goal.invariant-loop-b
invariant-loop-b l = IsCapped l.value (digits_value 10 (take l.b-index l.digits)) × (l.value < 2 ^ 70)
