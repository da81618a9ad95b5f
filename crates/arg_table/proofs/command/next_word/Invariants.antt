use Rattle.std.proofs.Common.{◌≡◌, length}
use Rattle.arg_table.specs.Heads.{next_word}
use Rattle.arg_table.specs.Inside.{next_after}
use Rattle.arg_table.specs.Words.{cut}
use Rattle.arg_table.proofs.command.next_word.Given as goal

-- the words that are left give the rest of the answer
abbrev pub invariant-words : goal.invariant-words
invariant-words l = next_after l.fn.settings.items (next_word (cut l.fn.words)) ≡ next_after l.settings.items (next_word (cut l.left))

abbrev pub decreases-words : goal.decreases-words
decreases-words l = length l.left
