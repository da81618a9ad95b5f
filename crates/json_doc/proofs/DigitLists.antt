-- Numbers as lists of digits, which are read from the left.
use Rattle.std.proofs.Common.{◌≡◌, ℕ, zero, suc, ◌+◌, ◌-◌, ◌*◌, ◌^◌, ◌<◌, ◌≤◌, List, [], ◌∷◌, ◌++◌, length, take, drop, get_or, inl, inr, refl, sym, ap, ◌∙◌, subst, arith}
use Rattle.std.specs.Char.{digit_value}
use Rattle.std.specs.Str.Parse.{digits_value, digits_value_after, AllDigits}
use Rattle.std.proofs.Math.Nat.{pow-suc, mul_assoc, mul-one, le-mul_of_pos_right}
use Rattle.std.proofs.lemmas.Bool.{cases_eq, cases_lt}
use Rattle.std.proofs.lemmas.List.{take-append-drop, take_more}
use Rattle.std.proofs.lemmas.Str.{digit_value_digit}
use Rattle.std.proofs.lemmas.Str.Parse.{digit_at}
use Rattle.json_doc.specs.Trimmed.{IsLong, IsCapped}
use Rattle.json_doc.proofs.LeastForms.{ten-pos}

pub after-append : (n : ℕ) (xs ys : List ℕ) → digits_value_after 10 n (xs ++ ys) ≡ digits_value_after 10 (digits_value_after 10 n xs) ys
after-append n [] ys = refl
after-append n (x ∷ xs) ys = after-append (n * 10 + digit_value x) xs ys

AllDigits-drop : (ds : List ℕ) (i : ℕ) → AllDigits 10 ds → AllDigits 10 (drop i ds)
AllDigits-drop ds zero all = all
AllDigits-drop [] (suc i) all = all
AllDigits-drop (d ∷ ds) (suc i) all = AllDigits-drop ds i all.1

-- one digit more
pub after-more : (n : ℕ) (ds : List ℕ) (i : ℕ) → AllDigits 10 ds → i < length ds → digits_value_after 10 n (take (i + 1) ds) ≡ digits_value_after 10 n (take i ds) * 10 + (get_or ds i 0 - 48)
after-more n ds i all within =
    let range = digit_at ds i all within in
    let value : digit_value (get_or ds i 0) ≡ get_or ds i 0 - 48 = omega (arith, digit_value_digit (get_or ds i 0) range) in
    ap (digits_value_after 10 n) (take_more ds i 0 within) ∙ after-append n (take i ds) (get_or ds i 0 ∷ []) ∙ ap (λ v. digits_value_after 10 n (take i ds) * 10 + v) value

IsLong-big : (n : ℕ) → IsLong n → 10 ^ 36 ≤ n
IsLong-big n long = let whole : long.0 ≤ long.0 * 10 ^ long.1 = le-mul_of_pos_right long.0 (ten-pos long.1) in omega (arith, long.3, long.4)

-- a digit behind too many
long_more : (n d : ℕ) → d < 10 → IsLong n → IsLong (n * 10 + d)
long_more n d small long =
    let big = IsLong-big n long in
    elim (cases_eq d 0) [
      | inl e ↦
          let moved : n * 10 ≡ long.0 * 10 ^ suc long.1 = ap (λ m. m * 10) long.3 ∙ mul_assoc long.0 (10 ^ long.1) 10 ∙ ap (λ p. long.0 * p) (sym (pow-suc 10 long.1)) in
          let same : n * 10 + d ≡ n * 10 = omega arith in
          (long.0, suc long.1, long.2, same ∙ moved, long.4)
      | inr some ↦ (n * 10 + d, 0, (λ e. omega arith), sym (mul-one (n * 10 + d)), omega arith)
    ]

-- digits behind too many
pub long_after : (n : ℕ) (ds : List ℕ) → AllDigits 10 ds → IsLong n → IsLong (digits_value_after 10 n ds)
long_after n [] all long = long
long_after n (d ∷ ds) all long = long_after (n * 10 + digit_value d) ds all.1 (long_more n (digit_value d) all.0 long)

-- too many once another digit that isn't zero comes
pub long_at : (n : ℕ) (ds : List ℕ) (i front : ℕ) → AllDigits 10 ds → i < length ds → front ≡ digits_value_after 10 n (take i ds) → (0 < get_or ds i 0 - 48) × (10 ^ 36 ≤ front * 10 + (get_or ds i 0 - 48)) → IsLong (digits_value_after 10 n ds)
long_at n ds i front all within is long =
    let d : ℕ = get_or ds i 0 - 48 in
    let range = digit_at ds i all within in
    let here : IsLong (front * 10 + d) = (front * 10 + d, 0, (λ e. omega arith), sym (mul-one (front * 10 + d)), long.1) in
    let so_far : front * 10 + d ≡ digits_value_after 10 n (take (i + 1) ds) = ap (λ v. v * 10 + d) is ∙ sym (after-more n ds i all within) in
    let whole : digits_value_after 10 (digits_value_after 10 n (take (i + 1) ds)) (drop (i + 1) ds) ≡ digits_value_after 10 n ds =
    sym (after-append n (take (i + 1) ds) (drop (i + 1) ds)) ∙ ap (digits_value_after 10 n) (take-append-drop (i + 1) ds) in
    subst IsLong whole (long_after _ (drop (i + 1) ds) (AllDigits-drop ds (i + 1) all) (subst IsLong so_far here))

-- A value that may be capped.

value_grows : (n d : ℕ) → 10 ^ 20 ≤ n → 10 ^ 20 ≤ n * 10 + d
value_grows n d big = omega arith

-- the value with a digit more
pub capped_more : (r s n d : ℕ) → IsCapped r n → (r < 10 ^ 20 → s ≡ r * 10 + d) → (10 ^ 20 ≤ r → s ≡ r) → IsCapped s (n * 10 + d)
capped_more r s n d (inl e) near far = elim (cases_lt r (10 ^ 20)) [
  | inl small ↦ inl (near small ∙ ap (λ v. v * 10 + d) e)
  | inr big ↦ let same = far big in inr (omega arith, value_grows n d (omega arith))
]
capped_more r s n d (inr h) near far = let same = far h.0 in inr (omega arith, value_grows n d h.1)

-- The digits before and behind a point, read one after the other.

after-both : (start a whole : ℕ) (int frac : List ℕ) → start ≡ 0 → a ≡ digits_value_after 10 start int → whole ≡ digits_value_after 10 a frac → whole ≡ digits_value_after 10 0 (int ++ frac)
after-both start a whole int frac none first second =
    second ∙ ap (λ n. digits_value_after 10 n frac) (first ∙ ap (λ n. digits_value_after 10 n int) none) ∙ sym (after-append 0 int frac)

pub digits_are : (start a whole : ℕ) (int frac : List ℕ) → start ≡ 0 → a ≡ digits_value_after 10 start int → whole ≡ digits_value_after 10 a frac → whole ≡ digits_value 10 (int ++ frac)
digits_are start a whole int frac none first second = after-both start a whole int frac none first second

pub long_frac : (start a : ℕ) (int frac : List ℕ) → start ≡ 0 → a ≡ digits_value_after 10 start int → IsLong (digits_value_after 10 a frac) → IsLong (digits_value 10 (int ++ frac))
long_frac start a int frac none first long = subst IsLong (after-both start a (digits_value_after 10 a frac) int frac none first refl) long

pub long_int : (start : ℕ) (int frac : List ℕ) → start ≡ 0 → AllDigits 10 frac → IsLong (digits_value_after 10 start int) → IsLong (digits_value 10 (int ++ frac))
long_int start int frac none all long = long_frac start (digits_value_after 10 start int) int frac none refl (long_after _ frac all long)
