-- The document of a whole number.
use Rattle.std.specs.Prelude.{◌≡◌, ℕ, suc, ◌^◌, Bool, true, false, ◌&&◌, nat_lt, refl, ℤ, pos, negsuc, Option, None, Some}
use Rattle.std.proofs.lemmas.Bool.{false≢true, ltb-true, leb-true, lt-ltb, and_parts}
use Rattle.json_doc.specs.declared.decimal.Decimal.{Decimal}
use Rattle.json_doc.specs.declared.doc.Doc.{Doc}
use Rattle.json_doc.specs.declared.doc.Doc.TheVariants.{Null, Number}

-- the decimal without places of this size, which has at most 36 digits
abbrev pub sized : (is_negative : Bool) (size : ℕ) (test : Bool) → nat_lt size (10 ^ 36) ≡ test → Option Decimal
sized is_negative size false e = None
sized is_negative size true e = Some (record {
  is_negative = is_negative && nat_lt 0 size;
  magnitude = size;
  scale = 0;
  small = ltb-true size (10 ^ 36) e;
  short = leb-true 0 30 refl;
  least = λ some ends. false≢true (lt-ltb 0 0 some);
  one_zero = λ negative. ltb-true 0 size (and_parts is_negative (nat_lt 0 size) negative).1;
})

-- the decimal with the value of a whole number
abbrev pub whole_number : ℤ → Option Decimal
whole_number (pos n) = sized false n (nat_lt n (10 ^ 36)) refl
whole_number (negsuc n) = sized true (suc n) (nat_lt (suc n) (10 ^ 36)) refl

abbrev pub number_or_null : Option Decimal → Doc
number_or_null None = Null
number_or_null (Some n) = Number n

-- whole numbers of 64 bits, as all in values are, have decimals
abbrev pub whole_document : ℤ → Doc
whole_document n = number_or_null (whole_number n)
