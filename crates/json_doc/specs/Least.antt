use Rattle.std.specs.Prelude.{◌≡◌, ℕ, ◌<◌, ◌%◌}

-- the fraction m / 10^p has no form with fewer places
abbrev pub IsLeast : ℕ → ℕ → Type 0
IsLeast m p = 0 < p → m % 10 ≡ 0 → ⊥
