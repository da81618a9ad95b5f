use Rattle.std.proofs.Common.{◌≡◌, drop}
use Rattle.json_doc.specs.Scan.{past_word}
use Rattle.json_doc.proofs.read_marks.pass_word.Given as goal

-- the letters that are left, behind what was passed
abbrev pub invariant-loop-c : goal.invariant-loop-c
invariant-loop-c l = past_word (drop l.c-index l.word) l.rest ≡ past_word l.word l.bytes
