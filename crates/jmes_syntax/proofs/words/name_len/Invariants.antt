use Rattle.std.proofs.Common.{◌≡◌, ℕ, ◌<◌, true, get_or}
use Rattle.jmes_syntax.specs.Words.{is_name_byte}
use Rattle.jmes_syntax.proofs.words.name_len.Given as goal

-- each byte so far belongs to the name
abbrev pub invariant-loop-at : goal.invariant-loop-at
invariant-loop-at l = (k : ℕ) → k < l.at → is_name_byte (get_or l.bytes k 0) ≡ true
