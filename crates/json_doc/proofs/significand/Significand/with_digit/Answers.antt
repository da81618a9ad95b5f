use Rattle.std.proofs.Common.{◌≡◌, ℕ, ◌+◌, ◌*◌, ◌%◌, ◌^◌, ◌<◌, ◌≤◌, inl, inr, ap, ◌∙◌, arith}
use Rattle.std.proofs.Math.Nat.{pow-le-pow_right}
use Rattle.std.proofs.lemmas.Bool.{cases_lt}
use Rattle.json_doc.proofs.LeastForms.{many_places, times-pow-one}
use Rattle.json_doc.proofs.significand.Significand.with_digit.Goals as goal

-- some digits stand before many zeros
long : (front zeros digit : ℕ) → (front % 10 ≡ 0 → front + zeros ≡ 0) → 36 ≤ zeros → 10 ^ 36 ≤ front * 10 ^ zeros * 10 + digit
long front zeros digit trimmed many =
    let some : 0 < front = elim (cases_lt 0 front) [ inl some ↦ some | inr none ↦ let e : front % 10 ≡ 0 = omega arith in let f = trimmed e in absurd (omega arith) ] in
    let big = many_places front zeros some many in
    omega arith

pub returns-then-self-ge36-clause-none : goal.returns-then-self-ge36-clause-none
returns-then-self-ge36-clause-none c =
    (omega arith, long c.args.self.front c.args.self.zeros c.args.digit c.args.self.trimmed (omega arith))

pub pow-power-requires : goal.pow-power-requires
pow-power-requires c =
    let power : 10 ^ (c.args.self.zeros + 1) ≤ 10 ^ 36 = pow-le-pow_right (let ten : 0 < 10 = omega arith in ten) (let few : c.args.self.zeros + 1 ≤ 36 = omega arith in few) in
    omega arith

-- the front moved for the digit
moved : (front zeros power : ℕ) → power ≡ 10 ^ (zeros + 1) → front * power ≡ front * 10 ^ zeros * 10
moved front zeros power e = ap (λ t. front * t) e ∙ times-pow-one front zeros

pub returns-in_err-front-clause-none : goal.returns-in_err-front-clause-none
returns-in_err-front-clause-none c =
    let same = moved c.args.self.front c.args.self.zeros c.pow-power.result c.pow-power.ensures in
    rw c.from_residual.ensures (omega arith, omega (arith, c.in_err-front.ensures.none))

pub invariant_of-result : goal.invariant_of-result
invariant_of-result c =
    let same = moved c.args.self.front c.args.self.zeros c.pow-power.result c.pow-power.ensures in
    let is = c.in_ok-front.ensures.some in
    record { short = is.1; trimmed = λ e. absurd (omega arith) }

pub returns-clause-value : goal.returns-clause-value
returns-clause-value c =
    let same = moved c.args.self.front c.args.self.zeros c.pow-power.result c.pow-power.ensures in
    let is = c.in_ok-front.ensures.some in
    omega arith
