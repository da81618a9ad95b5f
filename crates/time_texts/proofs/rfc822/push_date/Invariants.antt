use Rattle.std.proofs.Common.{◌≡◌, ◌++◌, drop}
use Rattle.time_texts.proofs.rfc822.push_date.Given as goal

-- the text so far and the bytes that are due are all of it
abbrev pub invariant-loop-b : goal.invariant-loop-b
invariant-loop-b l = l.out ++ drop l.b-index l.b-items ≡ l.fn.out ++ l.b-items
