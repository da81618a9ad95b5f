-- The order of texts.
use Rattle.std.specs.Prelude.{◌≡◌, ℕ, List}
use Rattle.std.specs.declared.cmp.Ordering.{Ordering}
use Rattle.std.specs.declared.cmp.Ordering.TheVariants.{Less}
use Rattle.std.specs.Cmp.Lexicographic.{slice_cmp}
use Rattle.std.specs.Ordering.{nat_cmp}

-- By code points: that of the first two that differ; a front of a text comes before it. It is the order
-- of the bytes in UTF-8 too (RFC 3629, section 1).
abbrev pub text_cmp : List ℕ → List ℕ → Ordering
text_cmp = slice_cmp nat_cmp

abbrev pub IsBefore : List ℕ → List ℕ → Type 0
IsBefore a b = text_cmp a b ≡ Less
