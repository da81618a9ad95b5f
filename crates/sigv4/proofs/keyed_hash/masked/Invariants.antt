use Rattle.std.proofs.Common.{◌≡◌, ◌++◌, length, map, take, drop}
use Rattle.std.specs.Prelude.{bit_xor}
use Rattle.sigv4.proofs.keyed_hash.masked.Given as goal

-- the bytes so far are masked, the others are the key's
abbrev pub invariant-loop-at : goal.invariant-loop-at
invariant-loop-at l = record {
  sized : length l.fn.key ≡ 64;
  wide : length l.block ≡ 64;
  so_far : l.block ≡ map (λ b. bit_xor b l.mask) (take l.at l.fn.key) ++ drop l.at l.fn.key;
}
