-- Digits that follow make no number smaller.
use Rattle.std.proofs.Common.{◌≤◌, ℕ, ◌+◌, ◌-◌, ◌*◌, Bool, true, false, List, [], ◌∷◌, if◌then◌else◌, arith}
use Rattle.std.specs.Char.{is_ascii_digit}
use Rattle.moments.specs.Inside.{more_digits}

pub grows : (n : ℕ) (ts : List ℕ) → n ≤ (more_digits n ts).0
grows n [] = omega (arith)
grows n (c ∷ cs) = by (is_ascii_digit c) (grows (n * 10 + (c - 48)) cs)
  where
    by : (b : Bool) → n * 10 + (c - 48) ≤ (more_digits (n * 10 + (c - 48)) cs).0 → n ≤ (if b then more_digits (n * 10 + (c - 48)) cs else (n, c ∷ cs)).0
    by true h = omega (arith, h)
    by false h = omega (arith)
