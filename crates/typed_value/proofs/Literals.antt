-- The characters of numbers as they are written.
use Rattle.std.proofs.Common.{◌≡◌, ℕ, ◌<◌, ◌^◌, List, ap, ◌∙◌}
use Rattle.std.proofs.lemmas.Int.{to_z-of_z}
use Rattle.std.specs.Prelude.{ℤ, pos, negsuc}
use Rattle.std.specs.Fmt.{decimal, signed_decimal}
use Rattle.std.specs.Str.{chars, IsAscii}
use Rattle.std.proofs.lemmas.Fmt.{IsAscii-decimal, IsAscii-signed}
use Rattle.std.proofs.lemmas.Str.{chars-IsAscii}
use mir.Syntax.{w64}
use mir.Val.{SFits, of_z, to_z}

pub chars-decimal : (n : ℕ) → n < 2 ^ 64 → chars (decimal n) ≡ decimal n
chars-decimal n small = chars-IsAscii (decimal n) (IsAscii-decimal n small)

ascii-signed : (n : ℤ) → SFits w64 n → IsAscii (signed_decimal n)
ascii-signed (pos n) fits = IsAscii-signed (pos n) fits.sfits
ascii-signed (negsuc n) fits = IsAscii-signed (negsuc n) fits.sfits

-- a number with a sign, as it comes from its bits
pub chars-signed : (n : ℤ) (text : List ℕ) → SFits w64 n → text ≡ signed_decimal (to_z w64 (of_z w64 n)) → chars text ≡ signed_decimal n
chars-signed n text fits is =
    ap chars (is ∙ ap signed_decimal (to_z-of_z w64 n fits)) ∙ chars-IsAscii (signed_decimal n) (ascii-signed n fits)
