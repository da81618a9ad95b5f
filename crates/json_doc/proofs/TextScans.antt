-- Reading a text gives exactly what is spelled in front.
use Rattle.std.proofs.Common.{◌≡◌, ◌≢◌, ℕ, zero, suc, ◌<◌, ◌≤◌, ◌==◌, inl, inr, List, [], ◌∷◌, ◌++◌, length, drop, slice_index, Ok, refl, sym, ap, ◌∙◌, subst, arith, append_assoc, length-append, ne_eqb}
use Rattle.std.specs.Char.{IsScalar}
use Rattle.std.proofs.Math.Utf8.{encode}
use Rattle.std.proofs.lemmas.Bool.{eqb-true, eqb-false}
use Rattle.std.proofs.lemmas.Str.{byte_from_char, char_from_byte, length-encode, len_utf8_bounds}
use Rattle.json_doc.specs.TextToken.{SpellsChar, unescaped, named, unit, pair, Spells, BeginsWithText, utf8_at, escape_at, char_at, text_within, text_at, with_front}
use Rattle.json_doc.proofs.TokenParts.{chosen, ok_same, bind_then}
use Rattle.json_doc.proofs.Utf8Parts.{utf8_at_ok, utf8_at-encode}
use Rattle.json_doc.proofs.Escapes.{escape_at_ok}
use Rattle.json_doc.proofs.EscapesAgain.{escape_at-unit, escape_at-pair, escape_at-named}

-- One character.

-- what spells a character in front
abbrev pub IsCharAt : List ℕ → ℕ × List ℕ → Type 0
IsCharAt bs x = (front : List ℕ) × SpellsChar x.0 front × (bs ≡ front ++ x.1)

-- the first byte of a character that isn't this ASCII byte is another
other_first : (bs rest : List ℕ) (c n : ℕ) → bs ≡ encode c ++ rest → c ≢ n → n < 128 → 0 < length bs → slice_index bs 0 ≢ n
other_first bs rest c n is other low some e = other (char_from_byte bs rest c is (omega arith) some ∙ e)

same_first : (bs rest : List ℕ) (c n : ℕ) → bs ≡ encode c ++ rest → c ≡ n → n < 128 → slice_index bs 0 ≡ n
same_first bs rest c n is e low = byte_from_char bs rest c is (omega arith) ∙ e

plain_at : (bs : List ℕ) (x : ℕ × List ℕ) → utf8_at bs ≡ Ok x → slice_index bs 0 ≢ 0x22 → slice_index bs 0 ≢ 0x5C → IsCharAt bs x
plain_at bs x e quote backslash =
    let t = utf8_at_ok bs x e in
    (encode x.0, unescaped (t.0, t.1, (λ h. quote (same_first bs x.1 x.0 0x22 t.2 h (omega arith))), (λ h. backslash (same_first bs x.1 x.0 0x5C t.2 h (omega arith)))) refl, t.2)

pub char_at_ok : (bs : List ℕ) (x : ℕ × List ℕ) → char_at bs ≡ Ok x → slice_index bs 0 ≢ 0x22 → IsCharAt bs x
unfolding char_at
char_at_ok [] x e quote = plain_at [] x e (λ h. cc) (λ h. cc)
char_at_ok (b ∷ bs) x e quote = elim (chosen (b == 0x5C) _ _ _ e) [
  | inl h ↦ let t = escape_at_ok bs x h.1 in (0x5C ∷ t.0, t.1, ap (λ c. c ∷ bs) (eqb-true b 0x5C h.0) ∙ ap (λ cs. 0x5C ∷ cs) t.2)
  | inr h ↦ plain_at (b ∷ bs) x h.1 quote (eqb-false b 0x5C h.0)
]

pub length-encode-pos : (c : ℕ) → 0 < length (encode c)
length-encode-pos c = omega (arith, length-encode c, (len_utf8_bounds c).0)

-- the first byte of an unescaped character, whatever is behind it
unescaped_first : (c n : ℕ) (rest : List ℕ) → c ≢ n → n < 128 → slice_index (encode c ++ rest) 0 ≢ n
unescaped_first c n rest other low =
    other_first (encode c ++ rest) rest c n refl other low (omega (arith, length-append (encode c) rest, length-encode-pos c))

escape_first : (bs : List ℕ) (x : ℕ × List ℕ) → escape_at bs ≡ Ok x → char_at (0x5C ∷ bs) ≡ Ok x
unfolding char_at
escape_first bs x e = e

-- what spells a character takes a byte at least, is no quotation mark, and is read as it
pub record IsReadAs (c : ℕ) (front rest : List ℕ) : Type 0 where
  pub some : 0 < length front
  pub no_quote : slice_index (front ++ rest) 0 ≢ 0x22
  pub read : char_at (front ++ rest) ≡ Ok (c, rest)

pub plain_is_read : (c : ℕ) (rest : List ℕ) → IsScalar c → 0x20 ≤ c → c ≢ 0x22 → c ≢ 0x5C → IsReadAs c (encode c) rest
unfolding char_at
plain_is_read c rest scalar low quote backslash = record {
  some = length-encode-pos c;
  no_quote = unescaped_first c 0x22 rest quote (omega arith);
  read = rw (ne_eqb _ 0x5C (unescaped_first c 0x5C rest backslash (omega arith))) (utf8_at-encode c rest scalar low);
}

escape_is_read : (c : ℕ) (spelled rest : List ℕ) → escape_at (spelled ++ rest) ≡ Ok (c, rest) → IsReadAs c (0x5C ∷ spelled) rest
escape_is_read c spelled rest e = record {
  some = omega arith;
  no_quote = λ h. omega arith;
  read = escape_first (spelled ++ rest) (c, rest) e;
}

pub spelled_is_read : (c : ℕ) (front rest : List ℕ) → SpellsChar c front → IsReadAs c front rest
spelled_is_read c front rest (unescaped is e) = subst (λ f. IsReadAs c f rest) (sym e) (plain_is_read c rest is.0 is.1 is.2 is.3)
spelled_is_read c front rest (named {letter} is e) = subst (λ f. IsReadAs c f rest) (sym e) (escape_is_read c (letter ∷ []) rest (escape_at-named letter c rest is))
spelled_is_read c front rest (unit {ds} is scalar e) = subst (λ f. IsReadAs c f rest) (sym e) (escape_is_read c (0x75 ∷ ds) rest (escape_at-unit ds c rest is scalar))
spelled_is_read c front rest (pair {u} {v} ds es is high is' low e f) =
    let both = escape_at-pair ds es u v rest is high is' low in
    let regrouped : escape_at ((0x75 ∷ ds ++ 0x5C ∷ 0x75 ∷ es) ++ rest) ≡ Ok (c, rest) =
    ap escape_at (ap (λ cs. 0x75 ∷ cs) (append_assoc ds (0x5C ∷ 0x75 ∷ es) rest)) ∙ both ∙ ap (λ d. Ok (d, rest)) (sym e) in
    subst (λ f. IsReadAs c f rest) (sym f) (escape_is_read c (0x75 ∷ ds ++ 0x5C ∷ 0x75 ∷ es) rest regrouped)

-- Whole texts.

-- a list that begins with this byte, which is no 0
pub first_is : (bs : List ℕ) (n : ℕ) → slice_index bs 0 ≡ n → 0 < n → bs ≡ n ∷ drop 1 bs
first_is [] n e some = absurd (omega arith)
first_is (b ∷ bs) n e some = ap (λ c. c ∷ bs) e

text_within_ok : (n : ℕ) (bs : List ℕ) (x : List ℕ × List ℕ) → text_within n bs ≡ Ok x → BeginsWithText bs x.0 x.1
text_within_ok zero bs x e = cc
text_within_ok (suc n) bs x e = elim (chosen (slice_index bs 0 == 0x22) _ _ _ e) [
  | inl h ↦ subst (λ y. BeginsWithText bs y.0 y.1) (ok_same _ x h.1) ([], refl, first_is bs 0x22 (eqb-true _ 0x22 h.0) (omega arith))
  | inr h ↦ bind_then (BeginsWithText bs x.0 x.1) _ _ x h.1 (λ c rc ec. bind_then (BeginsWithText bs x.0 x.1) _ _ x ec (λ cs rs es.
      let t = char_at_ok bs c rc (eqb-false _ 0x22 h.0) in
      let u = text_within_ok n c.1 cs rs in
      let whole : bs ≡ (t.0 ++ u.0) ++ 0x22 ∷ cs.1 = t.2 ∙ ap (λ r. t.0 ++ r) u.2 ∙ sym (append_assoc t.0 u.0 (0x22 ∷ cs.1)) in
      subst (λ y. BeginsWithText bs y.0 y.1) (ok_same _ x es) (t.0 ++ u.0, (t.0, u.0, t.1, u.1, refl), whole)))
]

-- each character takes a byte at least
length-Spells : (cs bs : List ℕ) → Spells cs bs → length cs ≤ length bs
length-Spells [] bs e = omega arith
length-Spells (c ∷ cs) bs s =
    let front : 0 < length s.0 = (spelled_is_read c s.0 [] s.2).some in
    omega (arith, length-Spells cs s.1 s.3, ap length s.4, length-append s.0 s.1)

text_within-end : (n : ℕ) (rest : List ℕ) → text_within (suc n) (0x22 ∷ rest) ≡ Ok ([], rest)
text_within-end n rest = refl

text_within-char : (n : ℕ) (bs : List ℕ) (c : ℕ) (rest : List ℕ) → slice_index bs 0 ≢ 0x22 → char_at bs ≡ Ok (c, rest) → text_within (suc n) bs ≡ with_front (c ∷ []) (text_within n rest)
text_within-char n bs c rest quote read = rw (ne_eqb _ 0x22 quote, read) refl

text_within-spelled : (n : ℕ) (cs spelled rest : List ℕ) → Spells cs spelled → length cs < n → text_within n (spelled ++ 0x22 ∷ rest) ≡ Ok (cs, rest)
text_within-spelled zero cs spelled rest s short = absurd (omega arith)
text_within-spelled (suc n) [] spelled rest s short = ap (λ f. text_within (suc n) (f ++ 0x22 ∷ rest)) s ∙ text_within-end n rest
text_within-spelled (suc n) (c ∷ cs) spelled rest s short =
    let r = spelled_is_read c s.0 (s.1 ++ 0x22 ∷ rest) s.2 in
    let regrouped : spelled ++ 0x22 ∷ rest ≡ s.0 ++ (s.1 ++ 0x22 ∷ rest) = ap (λ f. f ++ 0x22 ∷ rest) s.4 ∙ append_assoc s.0 s.1 (0x22 ∷ rest) in
    ap (text_within (suc n)) regrouped ∙ text_within-char n (s.0 ++ (s.1 ++ 0x22 ∷ rest)) c (s.1 ++ 0x22 ∷ rest) r.no_quote r.read
    ∙ ap (with_front (c ∷ [])) (text_within-spelled n cs s.1 rest s.3 (omega arith))

-- a text that was read stands in front
pub text_at_ok : (bs : List ℕ) (x : List ℕ × List ℕ) → text_at bs ≡ Ok x → BeginsWithText bs x.0 x.1
unfolding text_at
text_at_ok bs x e = text_within_ok (length bs) bs x e

-- a text that stands in front is read
pub text_at-spelled : (bs text rest : List ℕ) → BeginsWithText bs text rest → text_at bs ≡ Ok (text, rest)
unfolding text_at
text_at-spelled bs text rest t =
    let short : length text < length bs = omega (arith, length-Spells text t.0 t.1, ap length t.2, length-append t.0 (0x22 ∷ rest)) in
    ap (text_within (length bs)) t.2 ∙ text_within-spelled (length bs) text t.0 rest t.1 short
