use Rattle.std.specs.Prelude.{ℕ, ◌==◌, Bool, ◌&&◌, not, nat_le}

-- a byte of a character that stands for itself in each layout
abbrev pub is_plain : ℕ → Bool
is_plain b = nat_le 32 b && nat_le b 126 && not (b == 34) && not (b == 92)
