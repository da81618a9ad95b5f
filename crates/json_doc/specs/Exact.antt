-- Exact values of numbers written in decimal, and the decimal fractions that have them.
use Rattle.std.specs.Prelude.{◌≡◌, ℕ, ◌+◌, ◌*◌, ◌-◌, ◌^◌, ◌<◌, ◌≤◌, ◌⊎◌, Bool, ◌&&◌, nat_lt}
use Rattle.json_doc.specs.declared.decimal.Decimal.{Decimal}

-- digits * 10^up / 10^down, perhaps negative
pub record Exact : Type 0 where
  pub is_negative : Bool
  pub digits : ℕ
  pub up : ℕ
  pub down : ℕ

-- the decimal is this value: the sizes are equal, multiplied across, and zero has no sign
pub record HasValue (d : Decimal) (x : Exact) : Type 0 where
  pub size : d.magnitude * 10 ^ x.down ≡ x.digits * 10 ^ (x.up + d.scale)
  pub sign : d.is_negative ≡ (x.is_negative && nat_lt 0 x.digits)

-- it has more digits or more places than a decimal has
abbrev pub HasNoDecimal : Exact → Type 0
HasNoDecimal x = (d : Decimal) → HasValue d x → ⊥

abbrev pub exact : Bool → ℕ → ℕ → ℕ → Exact
exact is_negative digits up down = record { is_negative = is_negative; digits = digits; up = up; down = down }

-- the decimal is digits * 10^up / 10^down with no place more than it needs
pub record IsForm (d : Decimal) (digits up down : ℕ) : Type 0 where
  pub size : d.magnitude ≡ digits * 10 ^ (up - down)
  pub places : d.scale ≡ down - up

-- that takes more than 36 digits, or more than 30 places
abbrev pub IsTooWide : ℕ → ℕ → ℕ → Type 0
IsTooWide digits up down = (10 ^ 36 ≤ digits * 10 ^ (up - down)) ⊎ (30 < down - up)
