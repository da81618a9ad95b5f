-- When another attempt is decided on.
use Rattle.std.proofs.Common.{◌≡◌, ℕ, ◌<◌, Bool, true, false, refl, arith}
use Rattle.std.specs.Prelude.{nat_le, nat_lt, if◌then◌else◌, ◌||◌}
use Rattle.std.proofs.lemmas.Bool.Decides.{nat_tests}
use Rattle.call_retry.specs.Retries.{decide}
use Rattle.call_retry.specs.declared.class.Class.{Class}
use Rattle.call_retry.specs.declared.class.Class.TheVariants as class
use Rattle.call_retry.specs.declared.retry.Decision.{Decision}
use Rattle.call_retry.specs.declared.retry.Decision.TheVariants as decision

abbrev of_tests : Bool → Bool → ℕ → Decision
of_tests late dear cost = if late || dear then decision.End else decision.Again cost

not_late : (late dear : Bool) (cost paid : ℕ) → of_tests late dear cost ≡ decision.Again paid → late ≡ false
not_late true dear cost paid e = cc
not_late false dear cost paid e = refl

-- another attempt is decided on only below the limit
pub below_limit : (c : Class) (number limit left cost : ℕ) → decide c number limit left ≡ decision.Again cost → number < limit
below_limit class.Good number limit left cost e = cc
below_limit class.Final number limit left cost e = cc
below_limit (class.Again most) number limit left cost e =
    let late : nat_le limit number ≡ false = not_late (nat_le limit number) (nat_lt left most) most cost e in
    grind (arith, nat_tests, late)
