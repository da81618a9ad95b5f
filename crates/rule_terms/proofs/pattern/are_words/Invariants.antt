use Rattle.std.proofs.Common.{◌≡◌, drop}
use Rattle.rule_terms.specs.Patterns.{are_words}
use Rattle.rule_terms.proofs.pattern.are_words.Given as goal

-- those so far are words
abbrev pub invariant-loop-word : goal.invariant-loop-word
invariant-loop-word l = are_words (drop l.word-index l.words) ≡ are_words l.words
