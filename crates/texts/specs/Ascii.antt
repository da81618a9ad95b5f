use Rattle.std.specs.Prelude.{ℕ, Bool, List, nat_lt}
use Rattle.std.specs.List.{list_all}

-- each byte stands for an ASCII character (RFC 20), so that the bytes are the characters
abbrev pub is_ascii_text : List ℕ → Bool
is_ascii_text bytes = list_all (λ b. nat_lt b 128) bytes
