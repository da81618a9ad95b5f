-- The decimal with an exact value, where one has it: the first number of places at which the value is
-- a whole number of that place's units, and its digits are few enough.
use Rattle.std.specs.Prelude.{◌≡◌, ℕ, zero, suc, ◌+◌, ◌*◌, ◌/◌, ◌%◌, ◌^◌, ◌==◌, Bool, true, false, ◌&&◌, not, nat_lt, nat_le, Option, None, Some, refl}
use Rattle.std.specs.Option.{option_or}
use Rattle.std.proofs.Common.{ap}
use Rattle.std.proofs.lemmas.Bool.{false≢true, ltb-true, leb-true, lt-ltb}
use Rattle.json_doc.specs.declared.decimal.Decimal.{Decimal}
use Rattle.json_doc.specs.Exact.{Exact}
use Rattle.json_doc.specs.Least.{IsLeast}

pub first_holds : (a b : Bool) → (a && b) ≡ true → a ≡ true
first_holds true b e = refl
first_holds false b e = e

pub second_holds : (a b : Bool) → (a && b) ≡ true → b ≡ true
second_holds true b e = e
second_holds false b e = absurd (false≢true e)

pub both_hold : (a b : Bool) → a ≡ true → b ≡ true → (a && b) ≡ true
both_hold true b e f = f
both_hold false b e f = e

fails : (a : Bool) → not a ≡ true → a ≡ true → ⊥
fails true e f = false≢true e
fails false e f = false≢true f

-- the fraction q / 10^p has no form with fewer places
abbrev pub is_least : ℕ → ℕ → Bool
is_least q p = not (nat_lt 0 p && q % 10 == 0)

pub IsLeast-from : (q p : ℕ) → is_least q p ≡ true → IsLeast q p
IsLeast-from q p e = λ some ends. fails (nat_lt 0 p && q % 10 == 0) e (both_hold (nat_lt 0 p) (q % 10 == 0) (lt-ltb 0 p some) (ap (λ k. k == 0) ends))

-- it has at most 36 digits and 30 places, and is in its least form
abbrev pub is_form : ℕ → ℕ → Bool
is_form q p = nat_lt q (10 ^ 36) && (nat_le p 30 && is_least q p)

abbrev pub formed : (sign : Bool) (q p : ℕ) (test : Bool) → is_form q p ≡ test → Option Decimal
formed sign q p false e = None
formed sign q p true e = Some (record {
  is_negative = sign && nat_lt 0 q;
  magnitude = q;
  scale = p;
  small = ltb-true q (10 ^ 36) (first_holds _ _ e);
  short = leb-true p 30 (first_holds _ _ (second_holds (nat_lt q (10 ^ 36)) _ e));
  least = IsLeast-from q p (second_holds (nat_le p 30) _ (second_holds (nat_lt q (10 ^ 36)) _ e));
  one_zero = λ negative. ltb-true 0 q (second_holds sign (nat_lt 0 q) negative);
})

-- how many units of the place p the value has, whole ones
abbrev pub units : Exact → ℕ → ℕ
units x p = x.digits * 10 ^ (x.up + p) / 10 ^ x.down

abbrev pub is_whole_at : Exact → ℕ → Bool
is_whole_at x p = units x p * 10 ^ x.down == x.digits * 10 ^ (x.up + p)

abbrev pub at_test : (x : Exact) (p : ℕ) (test : Bool) → Option Decimal
at_test x p true = formed x.is_negative (units x p) p (is_form (units x p) p) refl
at_test x p false = None

-- the value with this many places
unfoldable pub at_places : Exact → ℕ → Option Decimal
at_places x p = at_test x p (is_whole_at x p)

-- with the first of so many numbers of places at which it is one
unfoldable pub first_at : Exact → ℕ → ℕ → Option Decimal
first_at x zero p = None
first_at x (suc n) p = option_or (at_places x p) (first_at x n (suc p))

unfoldable pub decimal_of : Exact → Option Decimal
decimal_of x = first_at x 31 0
