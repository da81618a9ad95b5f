-- Characters behind a backslash: what was read is spelled there, and what is spelled is read.
use Rattle.std.proofs.Common.{◌≡◌, ℕ, ◌+◌, ◌*◌, ◌<◌, ◌≤◌, ◌==◌, Bool, true, false, cond, ◌⊎◌, inl, inr, List, [], ◌∷◌, ◌++◌, Option, Some, None, Ok, ok_or, refl, sym, ap, ◌∙◌, subst, arith, append_assoc}
use Rattle.std.specs.Char.{IsScalar}
use Rattle.std.specs.Char.Utf16.{is_high_surrogate, is_low_surrogate, surrogate_pair_char}
use Rattle.std.specs.Str.Parse.{digits_value}
use Rattle.std.proofs.Math.Utf8.{low_scalar}
use Rattle.std.proofs.lemmas.Bool.{and_parts, and_from, ltb-true, leb-true, le-leb, lt-ltb, cases_lt, cases_order, eqb-true}
use Rattle.std.proofs.lemmas.Bool.Decides.{nat_tests}
use Rattle.json_doc.specs.declared.stop.Stop.{Stop}
use Rattle.json_doc.specs.Reading.{byte_in}
use Rattle.texts.specs.Calls.{◌>>=◌}
use Rattle.json_doc.specs.TextToken.{low_half_at, unit_at, unicode_at, named_char, escape_at, IsUnit, SpellsChar, unescaped, named, unit, pair}
use Rattle.json_doc.proofs.TokenParts.{chosen, ok_same, bind_then, IsHexIn, byte_in_ok, hex_in_ok}
use Rattle.json_doc.proofs.Utf8Parts.{high_scalar}

-- four digits in front and their value
abbrev pub IsUnitAt : List ℕ → ℕ × List ℕ → Type 0
IsUnitAt bs x = (ds : List ℕ) × IsUnit ds x.0 × (bs ≡ ds ++ x.1)

-- the same of digits that aren't the second half of a pair
abbrev pub IsFirstUnitAt : List ℕ → ℕ × List ℕ → Type 0
IsFirstUnitAt bs x = IsUnitAt bs x × (x.0 < 65536) × ((x.0 < 0xDC00) ⊎ (0xE000 ≤ x.0))

four_are : (p q r s : ℕ × List ℕ) (low m low' : ℕ) (bs : List ℕ) → m ≤ 15 → IsHexIn low 15 bs p → IsHexIn low' m p.1 q → IsHexIn 0 15 q.1 r → IsHexIn 0 15 r.1 s
    → IsUnitAt bs (((p.0 * 16 + q.0) * 16 + r.0) * 16 + s.0, s.1)
four_are p q r s low m low' bs short a b c d =
    let same : ((p.0 * 16 + q.0) * 16 + r.0) * 16 + s.0 ≡ digits_value 16 (a.0 ∷ b.0 ∷ c.0 ∷ d.0 ∷ []) = omega arith in
    (a.0 ∷ b.0 ∷ c.0 ∷ d.0 ∷ [], (refl, (omega arith, (omega arith, (omega arith, (omega arith, tt)))), same), rw (a.1, b.1, c.1, d.1) refl)

first_unit : (a b c d m : ℕ) → a ≤ 15 → b ≤ m → c ≤ 15 → d ≤ 15 → m ≤ 15 → (a ≡ 13 → m ≡ 11) → (((a * 16 + b) * 16 + c) * 16 + d < 0xDC00) ⊎ (0xE000 ≤ ((a * 16 + b) * 16 + c) * 16 + d)
first_unit a b c d m ha hb hc hd hm is = elim (cases_order a 13) [
  | inl e ↦ inl (omega (arith, is e))
  | inr (inl below) ↦ inl (omega arith)
  | inr (inr above) ↦ inr (omega arith)
]

pub unit_at_ok : (bs : List ℕ) (x : ℕ × List ℕ) → unit_at bs ≡ Ok x → IsFirstUnitAt bs x
unfolding unit_at
unit_at_ok bs x e =
    let G : Type 0 = IsFirstUnitAt bs x in
    bind_then G _ _ x e (λ p rp ep. bind_then G _ _ x ep (λ q rq eq. bind_then G _ _ x eq (λ r rr er. bind_then G _ _ x er (λ s rs es.
    let m : ℕ = cond (p.0 == 13) 11 15 in
    let short : m ≤ 15 = grind (arith, nat_tests) in
    let is : p.0 ≡ 13 → m ≡ 11 = λ h. grind (arith, nat_tests) in
    let a = hex_in_ok 0 15 bs p rp in
    let b = hex_in_ok 0 m p.1 q rq in
    let c = hex_in_ok 0 15 q.1 r rr in
    let d = hex_in_ok 0 15 r.1 s rs in
    subst (IsFirstUnitAt bs) (ok_same _ x es) (four_are p q r s 0 m 0 bs short a b c d, omega arith, first_unit p.0 q.0 r.0 s.0 m (omega arith) (omega arith) (omega arith) (omega arith) short is)))))

-- the second half of a pair in front, and the character of both halves
abbrev pub IsLowHalfAt : ℕ → List ℕ → ℕ × List ℕ → Type 0
IsLowHalfAt high bs x = (es : List ℕ) × (v : ℕ) × IsUnit es v × (is_low_surrogate v ≡ true) × (x.0 ≡ surrogate_pair_char high v) × (bs ≡ 0x5C ∷ 0x75 ∷ es ++ x.1)

low_half : (v : ℕ) → 0xDC00 ≤ v → v < 0xE000 → is_low_surrogate v ≡ true
low_half v low high = grind (arith, nat_tests)

low_half_is : (p q r s : ℕ × List ℕ) (high : ℕ) (bs cs ds : List ℕ) → bs ≡ 0x5C ∷ cs → cs ≡ 0x75 ∷ ds → IsHexIn 13 13 ds p → IsHexIn 12 15 p.1 q → IsHexIn 0 15 q.1 r → IsHexIn 0 15 r.1 s
    → IsLowHalfAt high bs (surrogate_pair_char high (((p.0 * 16 + q.0) * 16 + r.0) * 16 + s.0), s.1)
low_half_is p q r s high bs cs ds e f a b c d =
    let u = four_are p q r s 13 15 12 ds (omega arith) (a.0, a.1, a.2, a.3, omega arith) b c d in
    (u.0, ((p.0 * 16 + q.0) * 16 + r.0) * 16 + s.0, u.1, low_half (((p.0 * 16 + q.0) * 16 + r.0) * 16 + s.0) (omega arith) (omega arith), refl, e ∙ ap (λ t. 0x5C ∷ t) (f ∙ ap (λ t. 0x75 ∷ t) u.2))

byte_is : (n : ℕ) (bs : List ℕ) (x : ℕ × List ℕ) → byte_in n n bs ≡ Ok x → bs ≡ n ∷ x.1
byte_is n bs x e =
    let t = byte_in_ok n n bs x e in
    let same : x.0 ≡ n = omega arith in
    t.0 ∙ ap (λ b. b ∷ x.1) same

pub low_half_at_ok : (high : ℕ) (bs : List ℕ) (x : ℕ × List ℕ) → low_half_at high bs ≡ Ok x → IsLowHalfAt high bs x
unfolding low_half_at
low_half_at_ok high bs x e =
    let G : Type 0 = IsLowHalfAt high bs x in
    bind_then G _ _ x e (λ a ra ea. bind_then G _ _ x ea (λ b rb eb. bind_then G _ _ x eb (λ p rp ep. bind_then G _ _ x ep (λ q rq eq. bind_then G _ _ x eq (λ r rr er. bind_then G _ _ x er (λ s rs es.
    subst (IsLowHalfAt high bs) (ok_same _ x es) (low_half_is p q r s high bs a.1 b.1 (byte_is 0x5C bs a ra) (byte_is 0x75 a.1 b rb)
    (hex_in_ok 13 13 b.1 p rp) (hex_in_ok 12 15 p.1 q rq) (hex_in_ok 0 15 q.1 r rr) (hex_in_ok 0 15 r.1 s rs))))))))

-- what spells a character behind a backslash
abbrev pub IsEscapeAt : List ℕ → ℕ × List ℕ → Type 0
IsEscapeAt bs x = (spelled : List ℕ) × SpellsChar x.0 (0x5C ∷ spelled) × (bs ≡ spelled ++ x.1)

pub high_half : (u : ℕ) → is_high_surrogate u ≡ true → (0xD800 ≤ u) × (u < 0xDC00)
high_half u e = let both = and_parts _ _ e in (leb-true 0xD800 u both.0, ltb-true u 0xDC00 both.1)

no_half : (u : ℕ) → is_high_surrogate u ≡ false → u < 65536 → (u < 0xDC00) ⊎ (0xE000 ≤ u) → IsScalar u
no_half u e small (inr above) = high_scalar u above (omega arith)
no_half u e small (inl below) = elim (cases_lt u 0xD800) [
  | inl under ↦ low_scalar u under
  | inr over ↦ let f = and_from _ _ (le-leb 0xD800 u over) (lt-ltb u 0xDC00 below) in cc
]

unicode_at_ok : (bs : List ℕ) (x : ℕ × List ℕ) → unicode_at bs ≡ Ok x → IsEscapeAt (0x75 ∷ bs) x
unfolding unicode_at
unicode_at_ok bs x e =
    let G : Type 0 = IsEscapeAt (0x75 ∷ bs) x in
    bind_then G _ _ x e (λ u ru eu.
    let t = unit_at_ok bs u ru in
    elim (chosen (is_high_surrogate u.0) _ _ _ eu) [
      | inl h ↦ let l = low_half_at_ok u.0 u.1 x h.1 in
          let whole : bs ≡ (t.0.0 ++ 0x5C ∷ 0x75 ∷ l.0) ++ x.1 = t.0.2 ∙ ap (λ cs. t.0.0 ++ cs) l.5 ∙ sym (append_assoc t.0.0 (0x5C ∷ 0x75 ∷ l.0) x.1) in
          (0x75 ∷ t.0.0 ++ 0x5C ∷ 0x75 ∷ l.0, pair t.0.0 l.0 t.0.1 h.0 l.2 l.3 l.4 refl, ap (λ cs. 0x75 ∷ cs) whole)
      | inr h ↦ subst (IsEscapeAt (0x75 ∷ bs)) (ok_same u x h.1) (0x75 ∷ t.0.0, unit t.0.1 (no_half u.0 h.0 t.1 t.2) refl, ap (λ cs. 0x75 ∷ cs) t.0.2)
    ])

-- a choice that gives a small code one way, if the other way does
small_if : (b : Bool) (n c : ℕ) (others : Option ℕ) → cond b (Some n) others ≡ Some c → n < 128 → (others ≡ Some c → c < 128) → c < 128
small_if true n c others e small go = let same : n ≡ c = cc in omega arith
small_if false n c others e small go = go e

named_small : (letter c : ℕ) → named_char letter ≡ Some c → c < 128
named_small letter c e =
    small_if (letter == 0x22) 0x22 c _ e (omega arith) (λ e. small_if (letter == 0x5C) 0x5C c _ e (omega arith) (λ e. small_if (letter == 0x2F) 0x2F c _ e (omega arith) (λ e.
    small_if (letter == 0x62) 0x08 c _ e (omega arith) (λ e. small_if (letter == 0x66) 0x0C c _ e (omega arith) (λ e. small_if (letter == 0x6E) 0x0A c _ e (omega arith) (λ e.
    small_if (letter == 0x72) 0x0D c _ e (omega arith) (λ e. small_if (letter == 0x74) 0x09 c _ e (omega arith) (λ e. cc))))))))

named_is : (o : Option ℕ) (letter : ℕ) (bs : List ℕ) (stop : Stop) (x : ℕ × List ℕ) → (ok_or o stop >>= (λ c. Ok (c, bs))) ≡ Ok x → named_char letter ≡ o → IsEscapeAt (letter ∷ bs) x
named_is None letter bs stop x e is = cc
named_is (Some c) letter bs stop x e is = subst (IsEscapeAt (letter ∷ bs)) (ok_same (c, bs) x e) (letter ∷ [], named is refl, refl)

-- what was read behind a backslash is spelled there
pub escape_at_ok : (bs : List ℕ) (x : ℕ × List ℕ) → escape_at bs ≡ Ok x → IsEscapeAt bs x
unfolding escape_at
escape_at_ok [] x e = cc
escape_at_ok (b ∷ bs) x e = elim (chosen (b == 0x75) _ _ _ e) [
  | inl h ↦ subst (λ c. IsEscapeAt (c ∷ bs) x) (sym (eqb-true b 0x75 h.0)) (unicode_at_ok bs x h.1)
  | inr h ↦ named_is (named_char b) b bs _ x h.1 refl
]

pair_is_scalar : (u v c : ℕ) → is_high_surrogate u ≡ true → is_low_surrogate v ≡ true → c ≡ surrogate_pair_char u v → IsScalar c
pair_is_scalar u v c high low e =
    let h = high_half u high in
    let l = and_parts _ _ low in
    let lower = leb-true 0xDC00 v l.0 in
    let upper = ltb-true v 0xE000 l.1 in
    high_scalar c (omega arith) (omega arith)

-- what is spelled is a character
pub SpellsChar-scalar : (c : ℕ) (bs : List ℕ) → SpellsChar c bs → IsScalar c
SpellsChar-scalar c bs (unescaped is e) = is.0
SpellsChar-scalar c bs (named {letter} is e) = low_scalar c (let small = named_small letter c is in omega arith)
SpellsChar-scalar c bs (unit is scalar e) = scalar
SpellsChar-scalar c bs (pair {u} {v} ds es is high is' low e f) = pair_is_scalar u v c high low e
