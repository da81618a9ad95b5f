-- Letter case in texts and in their bytes.
use Rattle.std.proofs.Common.{◌≡◌, ℕ, ◌+◌, ◌/◌, ◌%◌, ◌<◌, ◌≤◌, inl, inr, Bool, true, false, cond, ltb, List, [], ◌∷◌, ◌++◌, length, refl, sym, ap, ◌∙◌, arith, length-append}
use Rattle.std.specs.Prelude.{map, encode_utf8_all}
use Rattle.std.specs.Bool.{Decides}
use Rattle.std.specs.Char.{to_ascii_lowercase}
use Rattle.std.specs.Str.{chars, IsUtf8, str_eq_ignore_ascii_case}
use Rattle.std.proofs.lemmas.Bool.{cases_lt}
use Rattle.std.proofs.lemmas.Bool.Decides.{nat_tests, same_from_decides}
use Rattle.std.proofs.lemmas.List.{map-append}
use Rattle.std.proofs.lemmas.Str.{encode_ascii, encode_same, encodes-chars, length-encode}
use Rattle.std.proofs.lemmas.Slice.Eq.{bytes_eq-Decides}
use lib.Utf8.{encode}

low_below : (b : ℕ) → b < 128 → to_ascii_lowercase b < 128
low_below b h = grind (arith, nat_tests)

high_stays : (b : ℕ) → 128 ≤ b → to_ascii_lowercase b ≡ b
high_stays b h = grind (arith, nat_tests)

abbrev continued : ℕ → ℕ
continued c = 128 + c % 64

high_bytes : (x y z : Bool) (c : ℕ) → x ≡ false
    → map to_ascii_lowercase (cond x (c ∷ []) (cond y ((192 + c / 64) ∷ continued c ∷ []) (cond z ((224 + c / 4096) ∷ continued (c / 64) ∷ continued c ∷ []) ((240 + c / 262144) ∷ continued (c / 4096) ∷ continued (c / 64) ∷ continued c ∷ []))))
    ≡ cond x (c ∷ []) (cond y ((192 + c / 64) ∷ continued c ∷ []) (cond z ((224 + c / 4096) ∷ continued (c / 64) ∷ continued c ∷ []) ((240 + c / 262144) ∷ continued (c / 4096) ∷ continued (c / 64) ∷ continued c ∷ [])))
high_bytes true y z c e = cc
high_bytes false true z c e = λ i. high_stays (192 + c / 64) (omega arith) i ∷ high_stays (continued c) (omega arith) i ∷ []
high_bytes false false true c e =
    λ i. high_stays (224 + c / 4096) (omega arith) i ∷ high_stays (continued (c / 64)) (omega arith) i ∷ high_stays (continued c) (omega arith) i ∷ []
high_bytes false false false c e =
    λ i. high_stays (240 + c / 262144) (omega arith) i ∷ high_stays (continued (c / 4096)) (omega arith) i ∷ high_stays (continued (c / 64)) (omega arith) i ∷ high_stays (continued c) (omega arith) i ∷ []

high_encode : (c : ℕ) → 128 ≤ c → map to_ascii_lowercase (encode c) ≡ encode c
unfolding encode
high_encode c h = high_bytes (ltb c 128) (ltb c 2048) (ltb c 65536) c (le-ltb c 128 h)
  where
    le-ltb : (c n : ℕ) → n ≤ c → ltb c n ≡ false
    le-ltb c n h = grind (arith, nat_tests)

-- the bytes of a character in lower case
lower-encode : (c : ℕ) → map to_ascii_lowercase (encode c) ≡ encode (to_ascii_lowercase c)
lower-encode c =
    elim (cases_lt c 128) [
      | inl low ↦ ap (map to_ascii_lowercase) (encode_ascii c low) ∙ sym (encode_ascii (to_ascii_lowercase c) (low_below c low))
      | inr high ↦ high_encode c high ∙ ap encode (sym (high_stays c high))
    ]

lower-encodes : (cs : List ℕ) → map to_ascii_lowercase (encode_utf8_all cs) ≡ encode_utf8_all (map to_ascii_lowercase cs)
lower-encodes [] = refl
lower-encodes (c ∷ cs) =
    map-append to_ascii_lowercase (encode c) (encode_utf8_all cs)
    ∙ ap (λ bs. bs ++ map to_ascii_lowercase (encode_utf8_all cs)) (lower-encode c)
    ∙ ap (λ bs. encode (to_ascii_lowercase c) ++ bs) (lower-encodes cs)

encode_some : (c : ℕ) (rest : List ℕ) → [] ≡ encode c ++ rest → ⊥
encode_some c rest e =
    let size = ap length e in
    let some = length-encode c in
    let more = length-append (encode c) rest in
    let width = some_width (ltb c 0x80) (ltb c 0x800) (ltb c 0x1_0000) in
    absurd (omega arith)
  where
    some_width : (x y z : Bool) → 0 < cond x 1 (cond y 2 (cond z 3 4))
    some_width true y z = omega arith
    some_width false true z = omega arith
    some_width false false true = omega arith
    some_width false false false = omega arith

-- texts of the same bytes are the same
one_text : (xs ys : List ℕ) → encode_utf8_all xs ≡ encode_utf8_all ys → xs ≡ ys
one_text [] [] e = refl
one_text [] (y ∷ ys) e = absurd (encode_some y (encode_utf8_all ys) e)
one_text (x ∷ xs) [] e = absurd (encode_some x (encode_utf8_all xs) (sym e))
one_text (x ∷ xs) (y ∷ ys) e =
    let same = encode_same x y (encode_utf8_all xs) (encode_utf8_all ys) e in
    λ i. same.0 i ∷ one_text xs ys same.1 i

-- bytes that are equal but for case spell characters that are
pub same_but_case : (result : Bool) (text bytes name : List ℕ) → bytes ≡ encode_utf8_all text → IsUtf8 name
    → Decides result (map to_ascii_lowercase bytes ≡ map to_ascii_lowercase name) → result ≡ str_eq_ignore_ascii_case text (chars name)
same_but_case result text bytes name bytes_are utf8 test =
    let left = ap (map to_ascii_lowercase) bytes_are ∙ lower-encodes text in
    let right = ap (map to_ascii_lowercase) (sym (encodes-chars name utf8)) ∙ lower-encodes (chars name) in
    let by_chars = bytes_eq-Decides (map to_ascii_lowercase text) (map to_ascii_lowercase (chars name)) in
    let P : Type 0 = map to_ascii_lowercase text ≡ map to_ascii_lowercase (chars name) in
    let by_result : Decides result P =
    (λ yes. one_text _ _ (sym left ∙ test.0 yes ∙ right), λ same. test.1 (left ∙ ap encode_utf8_all same ∙ sym right)) in
    same_from_decides _ _ by_result by_chars
