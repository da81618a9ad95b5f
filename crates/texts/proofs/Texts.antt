-- The characters of a text and its bytes, as a `Text` shows them.
use Rattle.std.proofs.Common.{◌≡◌, ◌≤◌, ◌<◌, ℕ, Bool, true, false, ◌&&◌, nat_lt, List, length, arith, [], ◌++◌, ◌∷◌, refl, sym, ap, append-nil, ◌∙◌}
use Rattle.std.specs.Prelude.{encode_utf8_all, encode_utf8}
use Rattle.std.specs.Str.{chars, IsUtf8, bytes_eq}
use Rattle.std.specs.Bool.{Decides}
use Rattle.std.proofs.lemmas.Str.{chars-append, chars-encodes, encodes-chars, encode_ascii, length-le-encodes}
use Rattle.std.proofs.Math.Utf8.{scalar, scalars, low_scalar}
use Rattle.std.specs.Cmp.Derive.{both_true}
use borrow.Author.Tests.{ltb-true}
use Rattle.texts.specs.Ascii.{is_ascii_text}
use Rattle.std.proofs.lemmas.Slice.Eq.{bytes_eq-Decides}
use Rattle.std.proofs.lemmas.Bool.Decides.{same_from_decides}

-- texts with the same characters have the same bytes
pub same_from_chars : (a b : List ℕ) → IsUtf8 a → IsUtf8 b → chars a ≡ chars b → a ≡ b
same_from_chars a b u v e = sym (encodes-chars a u) ∙ ap encode_utf8_all e ∙ encodes-chars b v

-- comparing bytes is comparing characters
pub bytes_eq-chars : (a b : List ℕ) → IsUtf8 a → IsUtf8 b → bytes_eq a b ≡ bytes_eq (chars a) (chars b)
bytes_eq-chars a b u v =
    let d = bytes_eq-Decides a b in
    let e = bytes_eq-Decides (chars a) (chars b) in
    let f : Decides (bytes_eq (chars a) (chars b)) (a ≡ b) = (λ h. same_from_chars a b u v (e.0 h), λ h. e.1 (ap chars h)) in
    same_from_decides _ _ d f

-- the characters of one character's bytes
pub chars_one : (c : ℕ) → scalar c ≡ true → chars (encode_utf8 c) ≡ c ∷ []
chars_one c s = ap chars (sym (append-nil (encode_utf8 c))) ∙ chars-encodes (c ∷ []) (ap (λ b. b && true) s)

-- a text with one more character
pub chars_push : (bs : List ℕ) (c : ℕ) → IsUtf8 bs → scalar c ≡ true → chars (bs ++ encode_utf8 c) ≡ chars bs ++ c ∷ []
chars_push bs c u s = chars-append bs (encode_utf8 c) u ∙ ap (λ cs. chars bs ++ cs) (chars_one c s)

no_items : (cs : List ℕ) → length cs ≤ 0 → cs ≡ []
no_items [] h = refl
no_items (c ∷ cs) h = absurd (omega arith)

-- no bytes spell no characters
pub encodes_none : (cs : List ℕ) → length (encode_utf8_all cs) ≡ 0 → cs ≡ []
encodes_none cs h = let le = length-le-encodes cs in no_items cs (omega arith)

and_left : (a b : Bool) → (a && b) ≡ true → a ≡ true
and_left true b h = refl
and_left false b h = h

and_right : (a b : Bool) → (a && b) ≡ true → b ≡ true
and_right true b h = h
and_right false b h = cc

below_128 : (b : ℕ) (bs : List ℕ) → is_ascii_text (b ∷ bs) ≡ true → b < 128
below_128 b bs h = ltb-true b 128 (and_left (nat_lt b 128) (is_ascii_text bs) h)

rest_ascii : (b : ℕ) (bs : List ℕ) → is_ascii_text (b ∷ bs) ≡ true → is_ascii_text bs ≡ true
rest_ascii b bs h = and_right (nat_lt b 128) (is_ascii_text bs) h

ascii_scalars : (bs : List ℕ) → is_ascii_text bs ≡ true → scalars bs ≡ true
ascii_scalars [] h = refl
ascii_scalars (b ∷ bs) h = let low = below_128 b bs h in both_true (low_scalar b (omega arith)) (ascii_scalars bs (rest_ascii b bs h))

ascii_encodes : (bs : List ℕ) → is_ascii_text bs ≡ true → encode_utf8_all bs ≡ bs
ascii_encodes [] h = refl
ascii_encodes (b ∷ bs) h =
    ap (λ cs. cs ++ encode_utf8_all bs) (encode_ascii b (below_128 b bs h)) ∙ ap (λ cs. b ∷ cs) (ascii_encodes bs (rest_ascii b bs h))

-- the characters of a text in ASCII are its bytes
pub chars_ascii : (bs : List ℕ) → is_ascii_text bs ≡ true → chars bs ≡ bs
chars_ascii bs h = ap chars (sym (ascii_encodes bs h)) ∙ chars-encodes bs (ascii_scalars bs h)
