-- A number that is spelled in front is read, if nothing behind it would go on with it.
use Rattle.std.proofs.Common.{◌≡◌, ◌≢◌, ℕ, ◌<◌, Bool, true, false, ◌⊎◌, inl, inr, ⊎_elim, List, [], ◌∷◌, ◌++◌, length, slice_index, Ok, refl, sym, ap, ◌∙◌, subst, arith, append_assoc, ne_eqb}
use Rattle.std.specs.Char.{is_ascii_digit, digit_value}
use Rattle.std.specs.List.{prefix_len}
use Rattle.std.specs.Str.Parse.{AllDigits}
use Rattle.std.proofs.Math.Seq.{take-append_seam, drop-append_seam}
use Rattle.std.proofs.lemmas.Bool.{eqb-true, cases_eq, or_cases, and_right, lt-leb}
use Rattle.std.proofs.lemmas.Str.Parse.{digit_from_value}
use Rattle.json_doc.specs.NumberToken.{Exponent, Number, IsDigits, IsInt, minus, SpellsFrac, no_frac, with_frac, IsSign, is_exp_mark, SpellsExp, no_exp, with_exp, SpellsNumber, digits_at, int_at, frac_at, sign_at, no_exponent, exp_at, minus_at, number_at}
use Rattle.json_doc.proofs.NumberScans.{Ends, Follows, digit_is, first_of_digits}

-- Digits.

no_front : (p : ℕ → Bool) (rest : List ℕ) → Ends p rest → prefix_len p rest ≡ 0
no_front p [] ends = refl
no_front p (b ∷ bs) ends = rw ends refl

front_is : (ds rest : List ℕ) → AllDigits 10 ds → Ends is_ascii_digit rest → prefix_len is_ascii_digit (ds ++ rest) ≡ length ds
front_is [] rest all ends = no_front is_ascii_digit rest ends
front_is (d ∷ ds) rest all ends = rw (digit_is d all.0, front_is ds rest all.1 ends) (omega arith)

pub digits_at-spelled : (ds rest : List ℕ) → IsDigits ds → Ends is_ascii_digit rest → digits_at (ds ++ rest) ≡ Ok (ds, rest)
unfolding digits_at
digits_at-spelled ds rest is ends =
    let some : length ds ≡ 0 → ⊥ = λ e. omega (arith, is.0) in
    rw (front_is ds rest is.1 ends, ne_eqb (length ds) 0 some, take-append_seam ds rest, drop-append_seam ds rest) refl

-- The parts.

pub int_at-spelled : (ds rest : List ℕ) → IsInt ds → (ds ≡ 0x30 ∷ []) ⊎ Ends is_ascii_digit rest → int_at (ds ++ rest) ≡ Ok (ds, rest)
unfolding int_at
int_at-spelled ds rest is (inl e) = subst (λ cs. int_at (cs ++ rest) ≡ Ok (cs, rest)) (sym e) refl
int_at-spelled ds rest is (inr ends) = elim (cases_eq (slice_index ds 0) 0x30) [
  | inl e ↦ let alone = is.1 e in subst (λ cs. int_at (cs ++ rest) ≡ Ok (cs, rest)) (sym alone) refl
  | inr other ↦ rw (ne_eqb (slice_index (ds ++ rest) 0) 0x30 (λ e. other (first_of_digits ds rest is.0.0 ∙ e))) (digits_at-spelled ds rest is.0 ends)
]

no_point : (rest : List ℕ) → slice_index rest 0 ≢ 0x2E → frac_at rest ≡ Ok ([], rest)
unfolding frac_at
no_point rest other = rw (ne_eqb (slice_index rest 0) 0x2E other) refl

point : (ds rest : List ℕ) → IsDigits ds → Ends is_ascii_digit rest → frac_at (0x2E ∷ ds ++ rest) ≡ Ok (ds, rest)
unfolding frac_at
point ds rest is ends = digits_at-spelled ds rest is ends

pub frac_at-spelled : (ds bs rest : List ℕ) → SpellsFrac ds bs → (ds ≡ [] → slice_index rest 0 ≢ 0x2E) → (0 < length ds → Ends is_ascii_digit rest) → frac_at (bs ++ rest) ≡ Ok (ds, rest)
frac_at-spelled ds bs rest (no_frac none e) other digits = ap (λ cs. frac_at (cs ++ rest)) e ∙ no_point rest (other none) ∙ ap (λ cs. Ok (cs, rest)) (sym none)
frac_at-spelled ds bs rest (with_frac is e) other digits = ap (λ cs. frac_at (cs ++ rest)) e ∙ point ds rest is (digits is.0)

no_mark : (rest : List ℕ) → Ends is_exp_mark rest → exp_at rest ≡ Ok (no_exponent, rest)
unfolding exp_at
no_mark rest ends = rw ends refl

no_exponent_is : (e : Exponent) → e.is_negative ≡ false → e.digits ≡ [] → e ≡ no_exponent
no_exponent_is e sign none = let same : ◌≡◌ {A = Bool × List ℕ} (e.is_negative, e.digits) (false, []) = cc in ap (λ x. let made : Exponent = record { is_negative = x.0; digits = x.1 } in made) same

-- a digit is no sign
not_sign : (d n : ℕ) → digit_value d < 10 → n < 48 → d ≢ n
not_sign d n small low e = let range = digit_from_value d small in omega arith

plain_sign : (ds rest : List ℕ) → IsDigits ds → sign_at (ds ++ rest) ≡ (false, ds ++ rest)
plain_sign [] rest is = absurd (omega (arith, is.0))
plain_sign (d ∷ ds) rest is = rw (ne_eqb d 0x2D (not_sign d 0x2D is.1.0 (omega arith)), ne_eqb d 0x2B (not_sign d 0x2B is.1.0 (omega arith))) refl

sign_at-spelled : (is_negative : Bool) (sign ds rest : List ℕ) → IsSign is_negative sign → IsDigits ds → sign_at (sign ++ (ds ++ rest)) ≡ (is_negative, ds ++ rest)
sign_at-spelled true sign ds rest s is = ap (λ cs. sign_at (cs ++ (ds ++ rest))) s
sign_at-spelled false sign ds rest (inl s) is = ap (λ cs. sign_at (cs ++ (ds ++ rest))) s
sign_at-spelled false sign ds rest (inr s) is = ap (λ cs. sign_at (cs ++ (ds ++ rest))) s ∙ plain_sign ds rest is

marked : (e : Exponent) (mark : ℕ) (sign rest : List ℕ) → is_exp_mark mark ≡ true → IsSign e.is_negative sign → IsDigits e.digits → Ends is_ascii_digit rest → exp_at (mark ∷ sign ++ (e.digits ++ rest)) ≡ Ok (e, rest)
unfolding exp_at
marked e mark sign rest m s is ends = rw (m, sign_at-spelled e.is_negative sign e.digits rest s is, digits_at-spelled e.digits rest is ends) refl

pub exp_at-spelled : (e : Exponent) (bs rest : List ℕ) → SpellsExp e bs → (e.digits ≡ [] → Ends is_exp_mark rest) → (0 < length e.digits → Ends is_ascii_digit rest) → exp_at (bs ++ rest) ≡ Ok (e, rest)
exp_at-spelled e bs rest (no_exp sign none is) other digits = ap (λ cs. exp_at (cs ++ rest)) is ∙ no_mark rest (other none) ∙ ap (λ x. Ok (x, rest)) (sym (no_exponent_is e sign none))
exp_at-spelled e bs rest (with_exp mark sign m s ds is) other digits =
    ap (λ cs. exp_at (cs ++ rest)) is ∙ ap (λ cs. exp_at (mark ∷ cs)) (append_assoc sign e.digits rest) ∙ marked e mark sign rest m s ds (digits ds.0)

-- The number.

-- the first byte of a part that is there, or of what is behind it
frac_first : (P : ℕ → Type 0) (ds bs rest : List ℕ) → SpellsFrac ds bs → P 0x2E → (ds ≡ [] → P (slice_index rest 0)) → P (slice_index (bs ++ rest) 0)
frac_first P ds bs rest (no_frac none e) here behind = subst (λ cs. P (slice_index (cs ++ rest) 0)) (sym e) (behind none)
frac_first P ds bs rest (with_frac is e) here behind = subst (λ cs. P (slice_index (cs ++ rest) 0)) (sym e) here

exp_first : (P : ℕ → Type 0) (e : Exponent) (bs rest : List ℕ) → SpellsExp e bs → ((mark : ℕ) → is_exp_mark mark ≡ true → P mark) → (e.digits ≡ [] → P (slice_index rest 0)) → P (slice_index (bs ++ rest) 0)
exp_first P e bs rest (no_exp sign none is) here behind = subst (λ cs. P (slice_index (cs ++ rest) 0)) (sym is) (behind none)
exp_first P e bs rest (with_exp mark sign m s ds is) here behind = subst (λ cs. P (slice_index (cs ++ rest) 0)) (sym is) (here mark m)

mark_is : (mark : ℕ) → is_exp_mark mark ≡ true → (mark ≡ 0x65) ⊎ (mark ≡ 0x45)
mark_is mark m = ⊎_elim (λ h. inl (eqb-true mark 0x65 h)) (λ h. inr (eqb-true mark 0x45 h)) (or_cases _ _ m)

mark_no_digit : (mark : ℕ) → is_exp_mark mark ≡ true → is_ascii_digit mark ≡ false
mark_no_digit mark m = and_right _ _ (lt-leb mark 57 (⊎_elim (λ e. omega arith) (λ e. omega arith) (mark_is mark m)))

mark_no_point : (mark : ℕ) → is_exp_mark mark ≡ true → mark ≢ 0x2E
mark_no_point mark m = λ e. ⊎_elim (λ h. omega arith) (λ h. omega arith) (mark_is mark m)

minus_at-spelled : (sign : Bool) (ds rest : List ℕ) → IsDigits ds → minus_at (minus sign ++ (ds ++ rest)) ≡ (sign, ds ++ rest)
minus_at-spelled true ds rest is = refl
minus_at-spelled false [] rest is = absurd (omega (arith, is.0))
minus_at-spelled false (d ∷ ds) rest is = rw (ne_eqb d 0x2D (not_sign d 0x2D is.1.0 (omega arith))) refl

no_or_some : (ds : List ℕ) → (ds ≡ []) ⊎ (0 < length ds)
no_or_some [] = inl refl
no_or_some (d ∷ ds) = inr (omega arith)

module _ (n : Number) (text rest : List ℕ) (s : SpellsNumber n text) (follows : Follows n rest) where
  behind_int : (n.int ≡ 0x30 ∷ []) ⊎ Ends is_ascii_digit (s.frac ++ (s.exp ++ rest))
  behind_int = elim (no_or_some n.frac) [
    | inr some ↦ inr (frac_first (λ b. is_ascii_digit b ≡ false) n.frac s.frac (s.exp ++ rest) s.is_frac refl (λ none. let nothing = ap length none in absurd (omega arith)))
    | inl fracless ↦ elim (no_or_some n.exp.digits) [
      | inr some ↦
          inr (frac_first (λ b. is_ascii_digit b ≡ false) n.frac s.frac (s.exp ++ rest) s.is_frac refl
          (λ _. exp_first (λ b. is_ascii_digit b ≡ false) n.exp s.exp rest s.is_exp mark_no_digit (λ none. let nothing = ap length none in absurd (omega arith))))
      | inl expless ↦ elim (follows.int fracless expless).1 [
        | inl alone ↦ inl alone
        | inr ends ↦
            inr (frac_first (λ b. is_ascii_digit b ≡ false) n.frac s.frac (s.exp ++ rest) s.is_frac refl
            (λ _. exp_first (λ b. is_ascii_digit b ≡ false) n.exp s.exp rest s.is_exp mark_no_digit (λ _. ends)))
      ]
    ]
  ]

  parts_again : number_at (minus n.is_negative ++ (n.int ++ (s.frac ++ (s.exp ++ rest)))) ≡ Ok (n, rest)
  unfolding number_at
  parts_again =
      rw (
        minus_at-spelled n.is_negative n.int (s.frac ++ (s.exp ++ rest)) s.is_int.0,
        int_at-spelled n.int (s.frac ++ (s.exp ++ rest)) s.is_int behind_int,
        frac_at-spelled n.frac s.frac (s.exp ++ rest) s.is_frac
            (λ fracless. exp_first (λ b. b ≢ 0x2E) n.exp s.exp rest s.is_exp mark_no_point (λ expless. (follows.int fracless expless).0))
            (λ some. exp_first (λ b. is_ascii_digit b ≡ false) n.exp s.exp rest s.is_exp mark_no_digit (λ expless. follows.frac some expless)),
        exp_at-spelled n.exp s.exp rest s.is_exp follows.mark follows.exp,
      ) refl

  pub number_at-spelled : number_at (text ++ rest) ≡ Ok (n, rest)
  number_at-spelled =
      let regrouped : text ++ rest ≡ minus n.is_negative ++ (n.int ++ (s.frac ++ (s.exp ++ rest))) = ap (λ cs. cs ++ rest) s.whole ∙ simp append_assoc in
      ap number_at regrouped ∙ parts_again
