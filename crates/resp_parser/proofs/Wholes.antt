-- The whole number that the bytes of a text are.
use Rattle.std.proofs.Common.{◌≡◌, ◌≢◌, ℕ, ◌+◌, ◌<◌, ◌≤◌, ◌^◌, ◌==◌, ◌&&◌, nat_lt, not, Bool, true, false, if◌then◌else◌, List, [], ◌∷◌, length, get_or, drop, Option, None, Some, Result, Ok, Err, Bor, refl, sym, ap, ◌∙◌, arith, lit<}
use Rattle.std.specs.Prelude.{ℤ, pos, neg_ℤ, MatchOption, is_some}
use Rattle.std.specs.Result.{OkIff, result_ok}
use Rattle.std.specs.Bool.{Decides}
use Rattle.std.specs.Str.{all_ascii_digits}
use Rattle.std.specs.Str.Parse.{ParsesSigned, digits_value}
use Rattle.std.proofs.lemmas.Bool.Decides.{Decides-eqb, nat_tests}
use Rattle.std.proofs.lemmas.Str.Parse.{IsNumeralModel, numerals_by_value, tells_all_ascii_digits, parse_signed_minus, parse_signed_plain}
use mir.Syntax.{w64}
use Rattle.resp_parser.specs.Headers.{whole_of, within}

own : IsNumeralModel (λ ds. all_ascii_digits ds ≡ true) (digits_value 10)
own = numerals_by_value (λ ds. all_ascii_digits ds ≡ true) tells_all_ascii_digits

abbrev holds : List ℕ → ℕ → Bool
holds ds most = not (length ds == 0) && all_ascii_digits ds && nat_lt (digits_value 10 ds) most

it-holds : (ds : List ℕ) (most : ℕ) → all_ascii_digits ds ≡ true → 0 < length ds → digits_value 10 ds < most → holds ds most ≡ true
it-holds ds most digits some small = grind (arith, nat_tests)

it-fails : (ds : List ℕ) (most : ℕ) → (((all_ascii_digits ds ≡ true) × (0 < length ds) × (digits_value 10 ds < most)) → ⊥) → holds ds most ≡ true → ⊥
it-fails ds most none holds = none (grind (arith, nat_tests))

by-test : {E : Type 0} (r : Result ℤ E) (ds : List ℕ) (most : ℕ) (n : ℤ) → OkIff r ((all_ascii_digits ds ≡ true) × (0 < length ds) × (digits_value 10 ds < most)) n
    → result_ok r ≡ (if holds ds most then Some n else None)
by-test (Ok x) ds most n h = ap Some h.1 ∙ sym (ap (λ b. if b then Some n else None) (it-holds ds most h.0.0 h.0.1 h.0.2))
by-test (Err e) ds most n h = by (holds ds most) refl
  where
    by : (b : Bool) → holds ds most ≡ b → None ≡ (if b then Some n else None)
    by true is = absurd (it-fails ds most h is)
    by false is = refl

-- what is read of bytes that don't begin with a plus
pub whole-read : {E : Type 0} (bs : List ℕ) (r : Result ℤ E) → ParsesSigned w64 10 bs r → get_or bs 0 0 ≢ 43 → result_ok r ≡ whole_of bs
whole-read [] r h plus = by-test r [] (2 ^ 63) (pos (digits_value 10 [])) (parse_signed_plain own w64 [] r h plus (λ e. omega arith))
whole-read (c ∷ cs) r h plus =
    elim (c == 45) as (λ b. Decides b (c ≡ 45) → result_ok r ≡ (if b then within true cs else within false (c ∷ cs))) [
      | true ↦ (λ d. by-test r cs (2 ^ 63 + 1) (neg_ℤ (pos (digits_value 10 cs))) (looser r cs (parse_signed_minus own w64 (c ∷ cs) r h (d.0 refl))))
      | false ↦ (λ d. by-test r (c ∷ cs) (2 ^ 63) (pos (digits_value 10 (c ∷ cs))) (parse_signed_plain own w64 (c ∷ cs) r h plus (λ e. let t = d.1 e in absurd (cc))))
    ] (Decides-eqb c 45)
  where
    looser : {E : Type 0} (r : Result ℤ E) (ds : List ℕ) → OkIff r ((all_ascii_digits ds ≡ true) × (0 < length ds) × (digits_value 10 ds ≤ 2 ^ 63)) (neg_ℤ (pos (digits_value 10 ds)))
        → OkIff r ((all_ascii_digits ds ≡ true) × (0 < length ds) × (digits_value 10 ds < 2 ^ 63 + 1)) (neg_ℤ (pos (digits_value 10 ds)))
    looser (Ok x) ds h = ((h.0.0, h.0.1, omega (arith, h.0.2)), h.1)
    looser (Err e) ds h = λ q. h (q.0, q.1, omega (arith, q.2))

no-number : (a b : Bool) (n : ℤ) → (if not a && false && b then Some n else None) ≡ None
no-number true true n = refl
no-number true false n = refl
no-number false true n = refl
no-number false false n = refl

plus-first : (bs rest : List ℕ) → bs ≡ 43 ∷ rest → whole_of bs ≡ None
plus-first bs rest e =
    ap whole_of e ∙ no-number (length (43 ∷ rest) == 0) (nat_lt (digits_value 10 (43 ∷ rest)) (2 ^ 63)) (pos (digits_value 10 (43 ∷ rest)))

pub plus-none : (bs : List ℕ) (r : Option (Bor (List ℕ))) → MatchOption r ((rest : List ℕ) → bs ≢ 43 ∷ rest) (λ x. bs ≡ 43 ∷ x.now) → is_some r ≡ true → whole_of bs ≡ None
plus-none bs None h e = absurd (cc)
plus-none bs (Some x) h e = plus-first bs x.now h

pub plus-not : (bs : List ℕ) (r : Option (Bor (List ℕ))) → MatchOption r ((rest : List ℕ) → bs ≢ 43 ∷ rest) (λ x. bs ≡ 43 ∷ x.now) → is_some r ≡ false → get_or bs 0 0 ≢ 43
plus-not [] None h e = λ same. omega arith
plus-not (c ∷ cs) None h e = λ same. h cs (ap (λ x. x ∷ cs) same)
plus-not bs (Some x) h e = absurd (cc)
