use Rattle.std.proofs.Common.{◌≡◌, ◌≤◌, length}
use Rattle.json_doc.specs.TextToken.{text_at, with_front}
use Rattle.json_doc.proofs.text_token.read_text.Given as goal

-- what was read so far, and behind it what the rest gives
abbrev pub invariant-loop-text : goal.invariant-loop-text
invariant-loop-text l = (text_at l.fn.bytes ≡ with_front l.text (text_at l.rest)) × (length l.rest ≤ length l.fn.bytes)

abbrev pub decreases-loop-text : goal.decreases-loop-text
decreases-loop-text l = length l.rest
