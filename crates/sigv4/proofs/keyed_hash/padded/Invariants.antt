use Rattle.std.proofs.Common.{◌≡◌, replicate}
use lib.Seq.{paste}
use Rattle.sigv4.proofs.keyed_hash.padded.Given as goal

-- the key so far over zeros
abbrev pub invariant-loop-at : goal.invariant-loop-at
invariant-loop-at l = l.block ≡ paste (replicate 64 0) 0 l.key l.at
