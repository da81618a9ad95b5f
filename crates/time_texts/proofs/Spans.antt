-- Moments before and after 1970 begins.
use Rattle.std.proofs.Common.{◌≡◌, ℕ, Bool, true, false, ◌&&◌, suc, ◌-◌, ◌/◌, ◌<◌, ◌≤◌, ℤ, pos, negsuc, ◌+ℤ◌, unsigned_abs, nat_le, refl, ap, ◌∙◌, arith}
use Rattle.std.specs.Prelude.{int_lt}
use borrow.Author.Tests.{leb-true}
use Rattle.std.proofs.lemmas.Bool.Decides.{nat_tests}
use Rattle.jiff_core.proofs.SignedLemmas.{signed_arith}
use Rattle.time_texts.specs.Texts.{is_in_years, since_year_1, has_rfc822}

from_1970 : (n : ℕ) → 62_135_596_800 ≤ since_year_1 (pos n) / 1_000_000
from_1970 n = omega (arith, signed_arith)

before_1970 : (n : ℕ) → n ≤ 62_135_596_799_999_999 → since_year_1 (negsuc n) / 1_000_000 < 62_135_596_800
before_1970 n small =
    let sum : negsuc n +ℤ pos 62_135_596_800_000_000 ≡ pos (62_135_596_800_000_000 - suc n) = omega (arith, signed_arith) in
    let since : since_year_1 (negsuc n) ≡ 62_135_596_800_000_000 - suc n = ap unsigned_abs sum in
    omega (arith, since)

nothing_below : (n : ℕ) → nat_le 0 n ≡ true
nothing_below n = grind (arith, nat_tests)

pub not_late : (seconds : ℕ) → seconds < 253_402_300_800 → nat_le 253_402_300_800 seconds ≡ false
not_late seconds early = grind (arith, nat_tests)

and_left : (a b : Bool) → (a && b) ≡ true → a ≡ true
and_left true b h = refl
and_left false b h = h

pub rfc822_before : (t : ℤ) → is_in_years t ≡ true → since_year_1 t / 1_000_000 < 62_135_596_800 → has_rfc822 t ≡ false
rfc822_before (pos n) years early = let late = from_1970 n in absurd (omega arith)
rfc822_before (negsuc n) years early = refl

pub rfc822_from : (t : ℤ) → is_in_years t ≡ true → 62_135_596_800 ≤ since_year_1 t / 1_000_000 → has_rfc822 t ≡ true
rfc822_from (pos n) years late = ap (λ b. b && int_lt (pos n) (pos 253_402_300_800_000_000)) (nothing_below n) ∙ years
rfc822_from (negsuc n) years late =
    let early = before_1970 n (leb-true n 62_135_596_799_999_999 (and_left _ _ years)) in absurd (omega arith)

pub rfc822_outside : (t : ℤ) → is_in_years t ≡ false → has_rfc822 t ≡ false
rfc822_outside (pos n) years = ap (λ b. b && int_lt (pos n) (pos 253_402_300_800_000_000)) (nothing_below n) ∙ years
rfc822_outside (negsuc n) years = refl
