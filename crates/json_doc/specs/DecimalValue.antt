-- Decimal fractions by their values, as whole numbers over a denominator that they share.
use Rattle.std.specs.Prelude.{◌≡◌, ℕ, ◌+◌, ◌*◌, ◌^◌, ◌==◌, ◌&&◌, nat_lt, Bool, if◌then◌else◌, Option, None, Some, ℤ, pos, neg_ℤ, ◌+ℤ◌}
use Rattle.std.specs.declared.cmp.Ordering.{Ordering}
use Rattle.std.specs.Ordering.{int_cmp}
use Rattle.json_doc.specs.declared.decimal.Decimal.{Decimal}

-- a whole number of this size, perhaps negative
abbrev pub signed : Bool → ℕ → ℤ
signed is_negative size = if is_negative then neg_ℤ (pos size) else pos size

-- the whole number of 64 bits that a decimal without places is, where it is one
abbrev pub whole : Decimal → Option ℤ
whole n =
    if n.scale == 0 && nat_lt n.magnitude (if n.is_negative then 2 ^ 63 + 1 else 2 ^ 63)
    then Some (signed n.is_negative n.magnitude) else None

-- the numerator over the denominator 10^(scale + places)
abbrev pub numerator : Decimal → ℕ → ℤ
numerator n places = signed n.is_negative (n.magnitude * 10 ^ places)

-- the order of the values, over the denominator 10^(a.scale + b.scale)
abbrev pub value_cmp : Decimal → Decimal → Ordering
value_cmp a b = int_cmp (numerator a b.scale) (numerator b a.scale)

-- the sum of two values is the third, over the denominator 10^(a.scale + b.scale + sum.scale)
abbrev pub IsSum : Decimal → Decimal → Decimal → Type 0
IsSum a b sum = numerator a (b.scale + sum.scale) +ℤ numerator b (a.scale + sum.scale) ≡ numerator sum (a.scale + b.scale)
