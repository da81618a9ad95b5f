use Rattle.std.proofs.Common.{◌≡◌, ℕ, ◌<◌, false, get_or}
use Rattle.json_doc.specs.TextToken.{ends_run}
use Rattle.json_doc.proofs.text_token.run_len.Given as goal

-- no byte so far ends a run
abbrev pub invariant-loop-at : goal.invariant-loop-at
invariant-loop-at l = (k : ℕ) → k < l.at → ends_run (get_or l.bytes k 0) ≡ false
