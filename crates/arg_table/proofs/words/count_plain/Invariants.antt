use Rattle.std.proofs.Common.{◌≡◌, ◌+◌, length, drop}
use Rattle.arg_table.specs.Words.{cut}
use Rattle.arg_table.proofs.words.count_plain.Given as goal

-- the words so far are plain
abbrev pub invariant-loop-at : goal.invariant-loop-at
invariant-loop-at l = length (cut l.words).plain ≡ l.at + length (cut (drop l.at l.words)).plain
