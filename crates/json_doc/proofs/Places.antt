-- Digits in decimal, filled up with zeros: one more of them.
use Rattle.std.proofs.Common.{lit<, ◌≡◌, ℕ, ◌+◌, ◌-◌, ◌*◌, ◌/◌, ◌%◌, ◌^◌, ◌<◌, ◌≤◌, List, [], ◌∷◌, ◌++◌, length, replicate, ⊎_elim, add-one, arith, sym, ap, ◌∙◌}
use Rattle.std.specs.Fmt.{decimal}
use Rattle.std.proofs.lemmas.Bool.{cases_lt}
use Rattle.std.proofs.lemmas.Fmt.{decimal_digit, decimal_step_wide}
use Rattle.std.proofs.lemmas.List.{append_assoc, length_push, replicate_more}
use Rattle.std.proofs.lemmas.Nat.{div-mul-add, mod-mul-add}
use Rattle.std.proofs.Math.Arith.{mod-mul}
use Rattle.std.proofs.Math.Nat.{pow-suc, one-le-pow, mod-le, pow-le-pow_right}
use Rattle.json_doc.specs.DecimalText.{zero_filled}

abbrev zero_digit : List ℕ
zero_digit = 48 ∷ []

zero_filled-one : (q d : ℕ) → 0 < q → d < 10 → zero_filled (q + 1) (decimal d) ≡ zero_filled q (decimal 0) ++ (48 + d) ∷ []
zero_filled-one q d some small =
    let e : q + 1 - 1 ≡ q = omega arith in
    let e' : q - 1 + 1 ≡ q = omega arith in
    let zeros : replicate (q - 1) 48 ++ zero_digit ≡ replicate q 48 = replicate_more (q - 1) 48 ∙ ap (λ k. replicate k 48) e' in
    rw (decimal_digit d small, decimal_digit 0 (omega arith), e, zeros)

zero_filled-more : (q m d : ℕ) → d < 10 → 0 < m → m * 10 + d < 10 ^ 64 → zero_filled (q + 1) (decimal (m * 10 + d)) ≡ zero_filled q (decimal m) ++ (48 + d) ∷ []
zero_filled-more q m d small some fits =
    let step = decimal_step_wide (m * 10 + d) (omega arith) fits in
    let whole = div-mul-add m 10 d small in
    let last = mod-mul-add m 10 d small in
    let ds = decimal m in
    let len = length_push ds (48 + d) in
    let e : q + 1 - (length ds + 1) ≡ q - length ds = omega arith in
    rw (step, whole, last, len, e) (simp append_assoc)

-- the last q + 1 digits of n are the last q of n / 10 and the last of n
pub zero_filled-suc : (q n : ℕ) → 0 < q → n < 10 ^ 64 → zero_filled (q + 1) (decimal (n % 10 ^ (q + 1))) ≡ zero_filled q (decimal (n / 10 % 10 ^ q)) ++ (48 + n % 10) ∷ []
zero_filled-suc q n some fits =
    let m = n / 10 % 10 ^ q in
    let d = n % 10 in
    let small : d < 10 = omega arith in
    let low : n % 10 ^ (q + 1) ≡ m * 10 + d = ap (λ k. n % k) (ap (λ k. 10 ^ k) (add-one q) ∙ pow-suc 10 q) ∙ mod-mul n (one-le-pow q 10 (omega arith)) (omega arith) in
    let most : m * 10 + d < 10 ^ 64 = let le = mod-le n (10 ^ (q + 1)) in omega (arith, low) in
    rw low (⊎_elim
    (λ (none : m < 1). let zero_m : m ≡ 0 = omega arith in let alone : 0 * 10 + d ≡ d = omega arith in rw (zero_m, alone) (zero_filled-one q d some small))
    (λ (some_m : 1 ≤ m). zero_filled-more q m d small some_m most)
    (cases_lt m 1))

pub zero_filled-first : (n : ℕ) → zero_filled 1 (decimal (n % 10 ^ 1)) ≡ (48 + n % 10) ∷ []
zero_filled-first n = let small : n % 10 < 10 = omega arith in ap (zero_filled 1) (decimal_digit (n % 10) small)

pub decimal-last : (n : ℕ) → n < 10 → decimal n ≡ (48 + n % 10) ∷ []
decimal-last n small = let e : n ≡ n % 10 = omega arith in decimal_digit n small ∙ ap (λ d. (48 + d) ∷ []) e

pub pow_ten-fits : (p : ℕ) → p ≤ 30 → 10 ^ p < 2 ^ 128
pow_ten-fits p short = let le = pow-le-pow_right {n = 10} (lit< tt) short in omega (arith, le)

pub pow_ten-pos : (p : ℕ) → 0 < 10 ^ p
pow_ten-pos p = one-le-pow p 10 (omega arith)

pub zero_filled-pred : (p n : ℕ) → 1 < p → n < 10 ^ 64 → zero_filled p (decimal (n % 10 ^ p)) ≡ zero_filled (p - 1) (decimal (n / 10 % 10 ^ (p - 1))) ++ (48 + n % 10) ∷ []
zero_filled-pred p n more fits =
    let e : p - 1 + 1 ≡ p = omega arith in
    ap (λ k. zero_filled k (decimal (n % 10 ^ k))) (sym e) ∙ zero_filled-suc (p - 1) n (omega arith) fits

-- what was appended in two parts
pub appended : (out out' part last whole : List ℕ) → out' ≡ out ++ part → whole ≡ part ++ last → out' ++ last ≡ out ++ whole
appended out out' part last whole e e' = rw (e, e', append_assoc)
