use Rattle.std.proofs.Common.{◌≡◌, take}
use Rattle.jmes_syntax.proofs.words.ascii_text.Given as goal

-- the bytes so far
abbrev pub invariant-loop-byte : goal.invariant-loop-byte
invariant-loop-byte l = l.text ≡ take l.byte-index l.bytes
