-- How long pauses are.
use Rattle.std.proofs.Common.{◌≡◌, ℕ, ◌+◌, ◌-◌, ◌*◌, ◌/◌, ◌^◌, ◌<◌, ◌≤◌, arith, subst, mul_comm}
use Rattle.std.specs.Prelude.{min}
use Rattle.std.proofs.Math.Nat.{le-mul_of_pos_right}
use Rattle.std.proofs.Math.Pow.{pow_mono, shr_mono}
use Rattle.call_retry.specs.Retries.{backoff}

-- from the 64th attempt on every word but 0 gives the longest pause
pub late : (attempt word : ℕ) → 64 ≤ attempt → 0 < word → backoff attempt word ≡ 20000
late attempt word is_late some =
    let time : ℕ = 2 ^ (attempt - 1) in
    let long : 2 ^ 63 ≤ time = pow_mono {i = 63} {j = attempt - 1} (omega arith) in
    let positive : 0 < word * 1000 = omega arith in
    let part : time ≤ word * 1000 * time = subst (λ n. time ≤ n) (mul_comm time (word * 1000)) (le-mul_of_pos_right {m = word * 1000} time positive) in
    let all : 2 ^ 63 ≤ word * 1000 * time = omega (arith, long, part) in
    let shifted : 2 ^ 63 / 2 ^ 32 ≤ word * 1000 * time / 2 ^ 32 = shr_mono 32 all in
    omega (arith, shifted)
