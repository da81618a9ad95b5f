use Rattle.std.proofs.Common.{◌≡◌, take}
use Rattle.http_reply.proofs.heads.latin1.Given as goal

-- each byte so far is a character
abbrev pub invariant-loop-b : goal.invariant-loop-b
invariant-loop-b l = l.text ≡ take l.b-index l.bytes
