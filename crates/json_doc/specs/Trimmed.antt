-- Numbers by their digits before the zeros at the end.
use Rattle.std.specs.Prelude.{◌≡◌, ◌≢◌, ℕ, ◌*◌, ◌%◌, ◌^◌, ◌≤◌, ◌⊎◌}

-- a number with more than 36 digits before the zeros at its end
abbrev pub IsLong : ℕ → Type 0
IsLong n = (front : ℕ) × (zeros : ℕ) × (front % 10 ≢ 0) × (n ≡ front * 10 ^ zeros) × (10 ^ 36 ≤ front)

-- r stands for n: it is n, or both are so far beyond the lengths of slices that it doesn't matter
abbrev pub IsCapped : ℕ → ℕ → Type 0
IsCapped r n = (r ≡ n) ⊎ ((10 ^ 20 ≤ r) × (10 ^ 20 ≤ n))
