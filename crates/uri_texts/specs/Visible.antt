-- The characters that a target of a request may have.
use Rattle.std.specs.Prelude.{ℕ, Bool, ◌&&◌, nat_lt}

-- visible ASCII (RFC 5234, appendix B.1: VCHAR)
abbrev pub is_visible : ℕ → Bool
is_visible c = nat_lt 32 c && nat_lt c 127
