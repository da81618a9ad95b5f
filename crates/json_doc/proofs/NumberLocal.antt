-- What reading a number finds before a place depends on the bytes up to that place alone.
use Rattle.std.proofs.Common.{◌≡◌, ◌==◌, ℕ, ◌+◌, ◌≤◌, Bool, true, false, cond, if◌then◌else◌, List, [], ◌∷◌, ◌++◌, length, take, drop, Ok, Err, refl, sym, ap, subst, ◌∙◌, arith, length-append, length-drop}
use Rattle.std.specs.Prelude.{slice_index}
use Rattle.std.specs.Char.{is_ascii_digit}
use Rattle.std.specs.List.{prefix_len}
use Rattle.std.proofs.lemmas.Bool.{eqb-true}
use Rattle.std.proofs.lemmas.List.{take-append-le, drop-append-le}
use Rattle.json_doc.specs.declared.stop.Stop.TheVariants.{Syntax}
use Rattle.json_doc.specs.Reading.{Read}
use Rattle.json_doc.specs.NumberToken.{Exponent, Number, digits_at, int_at, frac_at, sign_at, no_exponent, is_exp_mark, exp_at, number_at}
use Rattle.json_doc.proofs.Within.{bind-within}
use Rattle.json_doc.proofs.NumberLeft.{digits_at-within, frac_at-within, unsigned, unsigned-within, signed, signed-within, exp_at-within, behind_minus, behind_minus-within}
use Rattle.json_doc.proofs.Local.{Ways, rest, more, Early, Moves, Local, fault-moves, choice-moves, bind-moves, too_late}

-- digits that end before the ways do are as many the other way
digits-same : (w : Ways) (front : List ℕ) → length (rest w) ≤ length (drop (prefix_len is_ascii_digit (front ++ rest w)) (front ++ rest w))
    → (prefix_len is_ascii_digit (front ++ more w) ≡ prefix_len is_ascii_digit (front ++ rest w)) × (prefix_len is_ascii_digit (front ++ rest w) ≤ length front)
digits-same w [] early =
    let n = prefix_len is_ascii_digit w.others in
    elim (is_ascii_digit w.first) as (λ v. length (rest w) ≤ length (drop (cond v (1 + n) 0) (rest w)) → (cond v (1 + prefix_len is_ascii_digit w.changed) 0 ≡ cond v (1 + n) 0) × (cond v (1 + n) 0 ≤ 0))
    [ true ↦ (λ e. absurd (omega (arith, length-drop (1 + n) (rest w)))) | false ↦ (λ e. (refl, omega arith)) ] early
digits-same w (b ∷ bs) early =
    let n = prefix_len is_ascii_digit (bs ++ rest w) in
    elim (is_ascii_digit b) as (λ v. length (rest w) ≤ length (drop (cond v (1 + n) 0) (b ∷ bs ++ rest w))
    → (cond v (1 + prefix_len is_ascii_digit (bs ++ more w)) 0 ≡ cond v (1 + n) 0) × (cond v (1 + n) 0 ≤ length (b ∷ bs))) [
      | true ↦ (λ e. let s = digits-same w bs (omega (arith, length-drop (1 + n) (b ∷ bs ++ rest w), length-drop n (bs ++ rest w))) in (ap (λ k. 1 + k) s.0, omega (arith, s.1)))
      | false ↦ (λ e. (refl, omega arith))
    ] early

-- so many digits
abbrev digits_of : ℕ → List ℕ → Read (List ℕ)
digits_of n bs = if n == 0 then Err (Syntax (length bs)) else Ok (take n bs, drop n bs)

digits_of-moves : (w : Ways) (front : List ℕ) (n : ℕ) → n ≤ length front → Early w (digits_of n (front ++ rest w)) → Moves w (digits_of n (front ++ rest w)) (digits_of n (front ++ more w))
digits_of-moves w front n within early =
    choice-moves w (n == 0) (Err (Syntax (length (front ++ rest w)))) (Ok (take n (front ++ rest w), drop n (front ++ rest w))) _ _ (λ e. fault-moves w front)
    (λ e. (
      drop n front,
      drop-append-le n front (rest w) within,
      ap (λ ds. Ok (ds, drop n (front ++ more w))) (take-append-le n front (more w) within ∙ sym (take-append-le n front (rest w) within)) ∙ ap (λ bs. Ok (take n (front ++ rest w), bs)) (drop-append-le n front (more w) within),
    )) early

digits_of-early : (w : Ways) (n : ℕ) (bs : List ℕ) → length (rest w) ≤ length bs → Early w (digits_of n bs) → length (rest w) ≤ length (drop n bs)
digits_of-early w n bs long early =
    elim (n == 0) as (λ v. n == 0 ≡ v → Early w (if v then Err (Syntax (length bs)) else Ok (take n bs, drop n bs)) → length (rest w) ≤ length (drop n bs))
    [ true ↦ (λ e _. let none = eqb-true n 0 e in omega (arith, length-drop n bs)) | false ↦ (λ e early. early) ] refl early

digits_at-local : Local digits_at
unfolding digits_at
digits_at-local w front early =
    let n = prefix_len is_ascii_digit (front ++ rest w) in
    let s = digits-same w front (digits_of-early w n (front ++ rest w) (omega (arith, length-append front (rest w))) early) in
    subst (λ k. Moves w (digits_of n (front ++ rest w)) (digits_of k (front ++ more w))) (sym s.0) (digits_of-moves w front n s.1 early)

int_at-local : Local int_at
unfolding int_at
int_at-local w [] early =
    choice-moves w (w.first == 0x30) (Ok (0x30 ∷ [], w.others)) (digits_at (rest w)) _ (digits_at (more w)) (λ e. absurd (omega arith)) (digits_at-local w []) early
int_at-local w (a ∷ us) early =
    choice-moves w (a == 0x30) (Ok (0x30 ∷ [], us ++ rest w)) (digits_at (a ∷ us ++ rest w)) _ (digits_at (a ∷ us ++ more w)) (λ e. (us, refl, refl)) (digits_at-local w (a ∷ us)) early

frac_at-local : Local frac_at
unfolding frac_at
frac_at-local w [] early =
    choice-moves w (w.first == 0x2E) (digits_at w.others) (Ok ([], rest w)) _ _ (too_late w _ _ (digits_at-within w.others)) (λ e. ([], refl, refl)) early
frac_at-local w (a ∷ us) early =
    choice-moves w (a == 0x2E) (digits_at (us ++ rest w)) (Ok ([], a ∷ us ++ rest w)) _ _ (digits_at-local w us) (λ e. (a ∷ us, refl, refl)) early

unsigned-local : (is_negative : Bool) → Local (unsigned is_negative)
unsigned-local is_negative w front early = bind-moves w _ _ _ (digits_at-local w front) (λ ds. omega arith) (λ ds w front early. (front, refl, refl)) early

-- a choice before the rest
pick : {A B : Type 0} (f : A → B) (b : Bool) (x y : A) → f (if b then x else y) ≡ (if b then f x else f y)
pick f b x y = elim b as (λ v. f (if v then x else y) ≡ (if v then f x else f y)) [ true ↦ refl | false ↦ refl ]

abbrev by_sign : List ℕ → Read Exponent
by_sign bs = if slice_index bs 0 == 0x2D then unsigned true (drop 1 bs) else (if slice_index bs 0 == 0x2B then unsigned false (drop 1 bs) else unsigned false bs)

by_sign-local : Local by_sign
by_sign-local w [] early =
    choice-moves w (w.first == 0x2D) (unsigned true w.others) _ _ _ (too_late w _ _ (unsigned-within true w.others))
    (choice-moves w (w.first == 0x2B) (unsigned false w.others) _ _ _ (too_late w _ _ (unsigned-within false w.others)) (unsigned-local false w [])) early
by_sign-local w (a ∷ us) early =
    choice-moves w (a == 0x2D) (unsigned true (us ++ rest w)) _ _ _ (unsigned-local true w us)
    (choice-moves w (a == 0x2B) (unsigned false (us ++ rest w)) _ _ _ (unsigned-local false w us) (unsigned-local false w (a ∷ us))) early

signed-is : (bs : List ℕ) → signed (sign_at bs) ≡ by_sign bs
signed-is bs =
    let plus : Bool × List ℕ = if slice_index bs 0 == 0x2B then (false, drop 1 bs) else (false, bs) in
    pick signed (slice_index bs 0 == 0x2D) (true, drop 1 bs) plus ∙ ap (λ o. if slice_index bs 0 == 0x2D then unsigned true (drop 1 bs) else o) (pick signed (slice_index bs 0 == 0x2B) (false, drop 1 bs) (false, bs))

signed-local : Local (λ bs. signed (sign_at bs))
signed-local w front early =
    subst (λ o. Moves w o (signed (sign_at (front ++ more w)))) (sym (signed-is (front ++ rest w)))
    (subst (λ o. Moves w (by_sign (front ++ rest w)) o) (sym (signed-is (front ++ more w))) (by_sign-local w front (subst (Early w) (signed-is (front ++ rest w)) early)))

exp_at-local : Local exp_at
unfolding exp_at
exp_at-local w [] early =
    choice-moves w (is_exp_mark w.first) (signed (sign_at w.others)) (Ok (no_exponent, rest w)) _ _ (too_late w _ _ (signed-within w.others)) (λ e. ([], refl, refl)) early
exp_at-local w (a ∷ us) early =
    choice-moves w (is_exp_mark a) (signed (sign_at (us ++ rest w))) (Ok (no_exponent, a ∷ us ++ rest w)) _ _ (signed-local w us) (λ e. (a ∷ us, refl, refl)) early

behind_minus-local : (is_negative : Bool) → Local (behind_minus is_negative)
behind_minus-local is_negative w front early =
    bind-moves w (int_at (front ++ rest w)) (int_at (front ++ more w)) _ (int_at-local w front)
    (λ int. bind-within int.1 (frac_at int.1) _ (frac_at-within int.1) (λ frac. bind-within frac.1 (exp_at frac.1) _ (exp_at-within frac.1) (λ exp. omega arith)))
    (λ int w front early. bind-moves w (frac_at (front ++ rest w)) (frac_at (front ++ more w)) _ (frac_at-local w front) (λ frac. bind-within frac.1 (exp_at frac.1) _ (exp_at-within frac.1) (λ exp. omega arith))
    (λ frac w front early. bind-moves w (exp_at (front ++ rest w)) (exp_at (front ++ more w)) _ (exp_at-local w front) (λ exp. omega arith) (λ exp w front early. (front, refl, refl)) early) early) early

abbrev by_minus : List ℕ → Read Number
by_minus bs = if slice_index bs 0 == 0x2D then behind_minus true (drop 1 bs) else behind_minus false bs

number-is : (bs : List ℕ) → number_at bs ≡ by_minus bs
unfolding number_at
number-is bs = pick (λ (x : Bool × List ℕ). behind_minus x.0 x.1) (slice_index bs 0 == 0x2D) (true, drop 1 bs) (false, bs)

by_minus-local : Local by_minus
by_minus-local w [] early = choice-moves w (w.first == 0x2D) (behind_minus true w.others) _ _ _ (too_late w _ _ (behind_minus-within true w.others)) (behind_minus-local false w []) early
by_minus-local w (a ∷ us) early = choice-moves w (a == 0x2D) (behind_minus true (us ++ rest w)) _ _ _ (behind_minus-local true w us) (behind_minus-local false w (a ∷ us)) early

pub number_at-local : Local number_at
number_at-local w front early =
    subst (λ o. Moves w o (number_at (front ++ more w))) (sym (number-is (front ++ rest w)))
    (subst (λ o. Moves w (by_minus (front ++ rest w)) o) (sym (number-is (front ++ more w))) (by_minus-local w front (subst (Early w) (number-is (front ++ rest w)) early)))
