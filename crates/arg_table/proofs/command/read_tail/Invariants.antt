use Rattle.std.proofs.Common.{◌≡◌, [], length}
use Rattle.arg_table.specs.Heads.{tail_of}
use Rattle.arg_table.specs.Inside.{tail_after}
use Rattle.arg_table.specs.Words.{cut}
use Rattle.arg_table.proofs.command.read_tail.Given as goal

-- the words that are left give the rest of the answer
abbrev pub invariant-words : goal.invariant-words
invariant-words l = tail_after l.fn.settings.items [] (tail_of (cut l.fn.words)) ≡ tail_after l.settings.items l.groups (tail_of (cut l.left))

abbrev pub decreases-words : goal.decreases-words
decreases-words l = length l.left
