-- The text of a decimal fraction: a number of RFC 8259, section 6, without an exponent.
use Rattle.std.specs.Prelude.{ℕ, ◌-◌, ◌/◌, ◌%◌, ◌^◌, ◌==◌, Bool, if◌then◌else◌, List, [], ◌∷◌, ◌++◌, length, replicate}
use Rattle.std.specs.Fmt.{decimal}
use Rattle.json_doc.specs.declared.decimal.Decimal.{Decimal}

abbrev pub sign_text : Bool → List ℕ
sign_text is_negative = if is_negative then 45 ∷ [] else []

-- digits behind as many zeros as make this count
abbrev pub zero_filled : ℕ → List ℕ → List ℕ
zero_filled count digits = replicate (count - length digits) 48 ++ digits

-- a point and exactly this many digits, or nothing where there are none
abbrev pub places_text : ℕ → ℕ → List ℕ
places_text count part = if count == 0 then [] else 46 ∷ zero_filled count (decimal part)

-- a sign where it is negative, the whole part, and the places
abbrev pub decimal_text : Decimal → List ℕ
decimal_text n = sign_text n.is_negative ++ decimal (n.magnitude / 10 ^ n.scale) ++ places_text n.scale (n.magnitude % 10 ^ n.scale)
