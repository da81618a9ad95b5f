-- Parts of texts, by bytes and by characters.
use Rattle.std.proofs.Common.{◌≡◌, ℕ, ◌-◌, Bool, true, false, ◌||◌, ◌⊎◌, List, [], ◌∷◌, ◌++◌, length, take, drop, get_or, eqb, inl, inr, refl, sym, ap, ◌∙◌, subst, arith}
use Rattle.std.specs.Prelude.{encode_utf8_all}
use Rattle.std.specs.List.{starts_with, ends_with}
use Rattle.std.specs.Str.{chars, IsUtf8, IsCharBoundary}
use Rattle.std.specs.Str.Iter.{HasSubslice}
use Rattle.std.specs.Cmp.Lexicographic.{pointwise, same_text}
use Rattle.std.proofs.Math.Seq.{take-append_seam, drop-append_seam}
use Rattle.std.proofs.lemmas.Cmp.{nat_list_eq_equiv}
use Rattle.std.proofs.lemmas.List.{take-append-drop, length-append}
use Rattle.std.proofs.lemmas.Str.{encodes-append, encodes-chars, chars-nil, chars-append, IsUtf8-take, IsCharBoundary-at_seam, IsCharBoundary-start}
use Rattle.jmes_eval.specs.Texts.{is_part}

pub same_bool : (a b : Bool) → (a ≡ true → b ≡ true) → (b ≡ true → a ≡ true) → a ≡ b
same_bool true b to from = sym (to refl)
same_bool false true to from = from refl
same_bool false false to from = refl

equal_lists : (xs ys : List ℕ) → pointwise eqb xs ys ≡ true → xs ≡ ys
equal_lists xs ys e = same_text xs ys (sym e)

same_lists : (xs : List ℕ) → pointwise eqb xs xs ≡ true
same_lists xs = nat_list_eq_equiv.refl xs

starts-split : (xs n : List ℕ) → starts_with eqb xs n ≡ true → (rest : List ℕ) × (xs ≡ n ++ rest)
starts-split xs n e = (drop (length n) xs, sym (take-append-drop (length n) xs) ∙ ap (λ t. t ++ drop (length n) xs) (sym (equal_lists n (take (length n) xs) e)))

starts-from : (xs n rest : List ℕ) → xs ≡ n ++ rest → starts_with eqb xs n ≡ true
starts-from xs n rest e = ap (λ t. pointwise eqb n (take (length n) t)) e ∙ ap (pointwise eqb n) (take-append_seam n rest) ∙ same_lists n

ends-split : (xs n : List ℕ) → ends_with eqb xs n ≡ true → (front : List ℕ) × (xs ≡ front ++ n)
ends-split xs n e = (take (length xs - length n) xs, sym (take-append-drop (length xs - length n) xs) ∙ ap (λ t. take (length xs - length n) xs ++ t) (sym (equal_lists n (drop (length xs - length n) xs) e)))

ends-from : (xs n front : List ℕ) → xs ≡ front ++ n → ends_with eqb xs n ≡ true
ends-from xs n front e =
    let k : length (front ++ n) - length n ≡ length front = let l = length-append front n in omega (arith, l) in
    ap (λ t. pointwise eqb n (drop (length t - length n) t)) e ∙ ap (λ i. pointwise eqb n (drop i (front ++ n))) k ∙ ap (pointwise eqb n) (drop-append_seam front n) ∙ same_lists n

pub starts-chars : (t n : List ℕ) → IsUtf8 t → IsUtf8 n → starts_with eqb t n ≡ starts_with eqb (chars t) (chars n)
starts-chars t n u v = same_bool _ _
    (λ e. let s = starts-split t n e in starts-from (chars t) (chars n) (chars s.0) (ap chars s.1 ∙ chars-append n s.0 v))
    (λ e. let s = starts-split (chars t) (chars n) e in
    starts-from t n (encode_utf8_all s.0) (sym (encodes-chars t u) ∙ ap encode_utf8_all s.1 ∙ encodes-append (chars n) s.0 ∙ ap (λ x. x ++ encode_utf8_all s.0) (encodes-chars n v)))

front-utf8 : (t a b : List ℕ) → IsUtf8 t → t ≡ a ++ b → IsCharBoundary t (length a) → IsUtf8 a
front-utf8 t a b u e cut = subst IsUtf8 (ap (take (length a)) e ∙ take-append_seam a b) (IsUtf8-take t (length a) u cut)

pub ends-chars : (t n : List ℕ) → IsUtf8 t → IsUtf8 n → ends_with eqb t n ≡ ends_with eqb (chars t) (chars n)
ends-chars t n u v = same_bool _ _
    (λ e. let s = ends-split t n e in
    let f = front-utf8 t s.0 n u s.1 (IsCharBoundary-at_seam t s.0 n s.1 v) in
    ends-from (chars t) (chars n) (chars s.0) (ap chars s.1 ∙ chars-append s.0 n f))
    (λ e. let s = ends-split (chars t) (chars n) e in
    ends-from t n (encode_utf8_all s.0) (sym (encodes-chars t u) ∙ ap encode_utf8_all s.1 ∙ encodes-append s.0 (chars n) ∙ ap (λ x. encode_utf8_all s.0 ++ x) (encodes-chars n v)))

-- Parts.

or_true : (b : Bool) → (b || true) ≡ true
or_true true = refl
or_true false = refl

or_cases : (a b : Bool) → (a || b) ≡ true → (a ≡ true) ⊎ (b ≡ true)
or_cases true b e = inl refl
or_cases false b e = inr e

part-starts : (cs ps : List ℕ) → starts_with eqb cs ps ≡ true → is_part ps cs ≡ true
part-starts [] ps e = e
part-starts (c ∷ cs) ps e = ap (λ b. b || is_part ps cs) e

part-from : (as' ps bs : List ℕ) → is_part ps (as' ++ (ps ++ bs)) ≡ true
part-from [] ps bs = part-starts (ps ++ bs) ps (starts-from (ps ++ bs) ps bs refl)
part-from (a ∷ as') ps bs = ap (λ b. starts_with eqb (a ∷ (as' ++ (ps ++ bs))) ps || b) (part-from as' ps bs) ∙ or_true (starts_with eqb (a ∷ (as' ++ (ps ++ bs))) ps)

part-split : (cs ps : List ℕ) → is_part ps cs ≡ true → (as' : List ℕ) × (bs : List ℕ) × (cs ≡ as' ++ (ps ++ bs))
part-split [] ps e = let s = starts-split [] ps e in ([], s.0, s.1)
part-split (c ∷ cs) ps e = elim (or_cases (starts_with eqb (c ∷ cs) ps) (is_part ps cs) e) [
  | inl starts ↦ let s = starts-split (c ∷ cs) ps starts in ([], s.0, s.1)
  | inr later ↦ let s = part-split cs ps later in (c ∷ s.0, s.1, ap (λ t. c ∷ t) s.2)
]

-- a part that isn't empty begins where the text may be cut
part-cut : (s a n b : List ℕ) (x : ℕ) (xs : List ℕ) → n ≡ x ∷ xs → IsUtf8 n → s ≡ a ++ (n ++ b) → IsCharBoundary s (length a)
part-cut s a n b x xs e v is =
    let start = IsCharBoundary-start n v in
    let len = ap length is ∙ length-append a (n ++ b) in
    let here : get_or s (length a) 0 ≡ x = ap (λ t. get_or t (length a) 0) is ∙ ap (λ m. get_or (a ++ (m ++ b)) (length a) 0) e ∙ at_seam a (x ∷ (xs ++ b)) in
    let first : get_or n 0 0 ≡ x = ap (λ t. get_or t 0 0) e in
    let some = ap length e in
    (omega (arith, len), λ below high. let lead = start.1 (omega (arith, some)) (omega (arith, here, first, high)) in omega (arith, here, first, lead))
  where
    at_seam : (a t : List ℕ) → get_or (a ++ t) (length a) 0 ≡ get_or t 0 0
    at_seam [] t = refl
    at_seam (y ∷ ys) t = at_seam ys t

part-chars-of : (s n : List ℕ) → IsUtf8 s → IsUtf8 n → HasSubslice s n → is_part (chars n) (chars s) ≡ true
part-chars-of s [] u v h = ap (λ t. is_part t (chars s)) chars-nil ∙ part-from [] [] (chars s)
part-chars-of s (x ∷ xs) u v h =
    let n = x ∷ xs in
    let f = front-utf8 s h.0 (n ++ h.1) u h.2 (part-cut s h.0 n h.1 x xs refl v h.2) in
    let split = ap chars h.2 ∙ chars-append h.0 (n ++ h.1) f ∙ ap (λ t. chars h.0 ++ t) (chars-append n h.1 v) in
    ap (is_part (chars n)) split ∙ part-from (chars h.0) (chars n) (chars h.1)

pub part-to : (s n : List ℕ) → IsUtf8 s → IsUtf8 n → HasSubslice s n → is_part (chars n) (chars s) ≡ true
part-to = part-chars-of

pub part-back : (s n : List ℕ) → IsUtf8 s → IsUtf8 n → is_part (chars n) (chars s) ≡ true → HasSubslice s n
part-back s n u v e =
    let p = part-split (chars s) (chars n) e in (
      encode_utf8_all p.0,
      encode_utf8_all p.1,
      sym (encodes-chars s u) ∙ ap encode_utf8_all p.2 ∙ encodes-append p.0 (chars n ++ p.1)
          ∙ ap (λ t. encode_utf8_all p.0 ++ t) (encodes-append (chars n) p.1 ∙ ap (λ t. t ++ encode_utf8_all p.1) (encodes-chars n v)),
    )
