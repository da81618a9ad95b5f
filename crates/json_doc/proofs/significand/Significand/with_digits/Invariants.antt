use Rattle.std.proofs.Common.{◌≡◌, ◌+◌, ◌*◌, ◌^◌, ◌≤◌, take}
use Rattle.std.specs.Str.Parse.{digits_value_after}
use Rattle.json_doc.proofs.significand.Significand.with_digits.Given as goal

-- the number with the digits so far
abbrev pub invariant-loop-b : goal.invariant-loop-b
invariant-loop-b l =
    (l.whole.front * 10 ^ l.whole.zeros ≡ digits_value_after 10 (l.fn.self.front * 10 ^ l.fn.self.zeros) (take l.b-index l.digits)) × (l.whole.zeros ≤ l.fn.self.zeros + l.b-index)
