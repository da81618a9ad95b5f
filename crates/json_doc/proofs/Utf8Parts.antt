-- A character that was read in UTF-8 is the one whose bytes stand there.
use Rattle.std.proofs.Common.{◌≡◌, ℕ, ◌+◌, ◌-◌, ◌*◌, ◌/◌, ◌%◌, ◌<◌, ◌≤◌, inl, inr, List, [], ◌∷◌, ◌++◌, Ok, refl, ◌∙◌, subst, arith, ⊎_elim}
use Rattle.std.specs.Char.{IsScalar}
use Rattle.std.specs.Int.{is_in_range}
use Rattle.std.specs.Str.Lossy.{second_byte_min, second_byte_max}
use Rattle.std.proofs.Math.Utf8.{encode, low_scalar, scalar_cases}
use Rattle.std.proofs.lemmas.Bool.{cases_eq, cases_lt, cases_order, lt-ltb, le-ltb}
use Rattle.std.proofs.lemmas.Bool.Decides.{nat_tests}
use Rattle.std.proofs.lemmas.Str.{encode_ascii}
use Rattle.json_doc.specs.Reading.{byte_in}
use Rattle.json_doc.specs.TextToken.{two_at, three_at, four_at, utf8_at}
use Rattle.json_doc.proofs.TokenParts.{chosen, ok_same, bind_ok, in_range, within, above, below, byte_in_ok, byte_in_from}
use Rattle.json_doc.proofs.Utf8Bytes.{encode_two, encode_three, encode_four}

-- the character in front, from the blank on
abbrev pub IsChar : List ℕ → ℕ × List ℕ → Type 0
IsChar bs x = IsScalar x.0 × (0x20 ≤ x.0) × (bs ≡ encode x.0 ++ x.1)

pub high_scalar : (c : ℕ) → 57344 ≤ c → c < 1114112 → IsScalar c
high_scalar c low high = grind (arith, nat_tests)

-- the character of these bytes
two_is : (b c : ℕ) (bs rest : List ℕ) → 194 ≤ b → b ≤ 223 → 128 ≤ c → c ≤ 191 → bs ≡ c ∷ rest → IsChar (b ∷ bs) ((b - 192) * 64 + (c - 128), rest)
two_is b c bs rest low high low_c high_c is =
    let code : ℕ = (b - 192) * 64 + (c - 128) in
    let first : 192 + (b - 192) ≡ b = omega arith in
    let second : 128 + (c - 128) ≡ c = omega arith in
    let bytes : encode code ≡ b ∷ c ∷ [] = encode_two (b - 192) (c - 128) (omega arith) (omega arith) (omega arith) ∙ rw (first, second) refl in
    (low_scalar code (omega arith), omega arith, rw (is, bytes) refl)

two_at_ok : (b : ℕ) (bs : List ℕ) (x : ℕ × List ℕ) → 194 ≤ b → b ≤ 223 → two_at b bs ≡ Ok x → IsChar (b ∷ bs) x
unfolding two_at
two_at_ok b bs x low high e =
    let p = bind_ok (byte_in 0x80 0xBF bs) _ x e in
    let t = byte_in_ok 0x80 0xBF bs p.0 p.1 in
    subst (IsChar (b ∷ bs)) (ok_same _ x p.2) (two_is b p.0.0 bs p.0.1 low high t.1 t.2 t.0)

-- the range of the second byte, by the first
second_min : (b : ℕ) → (128 ≤ second_byte_min b) × (b ≡ 224 → second_byte_min b ≡ 160) × (b ≡ 240 → second_byte_min b ≡ 144)
second_min b = (grind (arith, nat_tests), λ e. grind (arith, nat_tests), λ e. grind (arith, nat_tests))

second_max : (b : ℕ) → (second_byte_max b ≤ 191) × (b ≡ 237 → second_byte_max b ≡ 159) × (b ≡ 244 → second_byte_max b ≡ 143)
second_max b = (grind (arith, nat_tests), λ e. grind (arith, nat_tests), λ e. grind (arith, nat_tests))

three_is : (b c d : ℕ) (bs cs rest : List ℕ) → 224 ≤ b → b ≤ 239 → second_byte_min b ≤ c → c ≤ second_byte_max b → 128 ≤ d → d ≤ 191 → bs ≡ c ∷ cs → cs ≡ d ∷ rest
    → IsChar (b ∷ bs) (((b - 224) * 64 + (c - 128)) * 64 + (d - 128), rest)
three_is b c d bs cs rest low high low_c high_c low_d high_d is next =
    let least = second_min b in
    let most = second_max b in
    let h : ℕ = b - 224 in
    let m : ℕ = c - 128 in
    let l : ℕ = d - 128 in
    let first : 224 + h ≡ b = omega arith in
    let second : 128 + m ≡ c = omega arith in
    let third : 128 + l ≡ d = omega arith in
    let big : 2048 ≤ (h * 64 + m) * 64 + l = elim (cases_eq b 224) [ inl e ↦ omega (arith, least.1 e) | inr other ↦ omega arith ] in
    let bytes : encode ((h * 64 + m) * 64 + l) ≡ b ∷ c ∷ d ∷ [] = encode_three h m l (omega arith) (omega arith) (omega arith) big ∙ rw (first, second, third) refl in
    let is_scalar : IsScalar ((h * 64 + m) * 64 + l) = elim (cases_order b 237) [
      | inl e ↦ low_scalar ((h * 64 + m) * 64 + l) (omega (arith, most.1 e))
      | inr (inl below) ↦ low_scalar ((h * 64 + m) * 64 + l) (omega arith)
      | inr (inr above) ↦ high_scalar ((h * 64 + m) * 64 + l) (omega arith) (omega arith)
    ] in
    (is_scalar, omega arith, rw (is, next, bytes) refl)

three_at_ok : (b : ℕ) (bs : List ℕ) (x : ℕ × List ℕ) → 224 ≤ b → b ≤ 239 → three_at b bs ≡ Ok x → IsChar (b ∷ bs) x
unfolding three_at
three_at_ok b bs x low high e =
    let p = bind_ok (byte_in (second_byte_min b) (second_byte_max b) bs) _ x e in
    let q = bind_ok (byte_in 0x80 0xBF p.0.1) _ x p.2 in
    let s = byte_in_ok (second_byte_min b) (second_byte_max b) bs p.0 p.1 in
    let t = byte_in_ok 0x80 0xBF p.0.1 q.0 q.1 in
    subst (IsChar (b ∷ bs)) (ok_same _ x q.2) (three_is b p.0.0 q.0.0 bs p.0.1 q.0.1 low high s.1 s.2 t.1 t.2 s.0 t.0)

four_is : (b c d f : ℕ) (bs cs ds rest : List ℕ) → 240 ≤ b → b ≤ 244 → second_byte_min b ≤ c → c ≤ second_byte_max b → 128 ≤ d → d ≤ 191 → 128 ≤ f → f ≤ 191
    → bs ≡ c ∷ cs → cs ≡ d ∷ ds → ds ≡ f ∷ rest → IsChar (b ∷ bs) ((((b - 240) * 64 + (c - 128)) * 64 + (d - 128)) * 64 + (f - 128), rest)
four_is b c d f bs cs ds rest low high low_c high_c low_d high_d low_f high_f is next last =
    let least = second_min b in
    let most = second_max b in
    let h : ℕ = b - 240 in
    let m : ℕ = c - 128 in
    let k : ℕ = d - 128 in
    let l : ℕ = f - 128 in
    let first : 240 + h ≡ b = omega arith in
    let second : 128 + m ≡ c = omega arith in
    let third : 128 + k ≡ d = omega arith in
    let fourth : 128 + l ≡ f = omega arith in
    let big : 65536 ≤ ((h * 64 + m) * 64 + k) * 64 + l = elim (cases_eq b 240) [ inl e ↦ omega (arith, least.2 e) | inr other ↦ omega arith ] in
    let small : ((h * 64 + m) * 64 + k) * 64 + l < 1114112 = elim (cases_eq b 244) [ inl e ↦ omega (arith, most.2 e) | inr other ↦ omega arith ] in
    let bytes : encode (((h * 64 + m) * 64 + k) * 64 + l) ≡ b ∷ c ∷ d ∷ f ∷ [] = encode_four h m k l (omega arith) (omega arith) (omega arith) (omega arith) big ∙ rw (first, second, third, fourth) refl in
    (high_scalar (((h * 64 + m) * 64 + k) * 64 + l) (omega arith) small, omega arith, rw (is, next, last, bytes) refl)

four_at_ok : (b : ℕ) (bs : List ℕ) (x : ℕ × List ℕ) → 240 ≤ b → b ≤ 244 → four_at b bs ≡ Ok x → IsChar (b ∷ bs) x
unfolding four_at
four_at_ok b bs x low high e =
    let p = bind_ok (byte_in (second_byte_min b) (second_byte_max b) bs) _ x e in
    let q = bind_ok (byte_in 0x80 0xBF p.0.1) _ x p.2 in
    let r = bind_ok (byte_in 0x80 0xBF q.0.1) _ x q.2 in
    let s = byte_in_ok (second_byte_min b) (second_byte_max b) bs p.0 p.1 in
    let t = byte_in_ok 0x80 0xBF p.0.1 q.0 q.1 in
    let u = byte_in_ok 0x80 0xBF q.0.1 r.0 r.1 in
    subst (IsChar (b ∷ bs)) (ok_same _ x r.2) (four_is b p.0.0 q.0.0 r.0.0 bs p.0.1 q.0.1 r.0.1 low high s.1 s.2 t.1 t.2 u.1 u.2 s.0 t.0 u.0)

one_is : (b : ℕ) (bs : List ℕ) → 32 ≤ b → b ≤ 127 → IsChar (b ∷ bs) (b, bs)
one_is b bs low high = (low_scalar b (omega arith), low, rw (encode_ascii b (omega arith)) refl)

-- what was read in UTF-8 is the character in front
pub utf8_at_ok : (bs : List ℕ) (x : ℕ × List ℕ) → utf8_at bs ≡ Ok x → IsChar bs x
unfolding utf8_at
utf8_at_ok [] x e = cc
utf8_at_ok (b ∷ bs) x e = elim (chosen (is_in_range 0x20 0x7F b) _ _ _ e) [
  | inl h ↦ let r = in_range 0x20 0x7F b h.0 in subst (IsChar (b ∷ bs)) (ok_same _ x h.1) (one_is b bs r.0 r.1)
  | inr h ↦ elim (chosen (is_in_range 0xC2 0xDF b) _ _ _ h.1) [
    | inl i ↦ let r = in_range 0xC2 0xDF b i.0 in two_at_ok b bs x r.0 r.1 i.1
    | inr i ↦ elim (chosen (is_in_range 0xE0 0xEF b) _ _ _ i.1) [
      | inl j ↦ let r = in_range 0xE0 0xEF b j.0 in three_at_ok b bs x r.0 r.1 j.1
      | inr j ↦ elim (chosen (is_in_range 0xF0 0xF4 b) _ _ _ j.1) [
        | inl k ↦ let r = in_range 0xF0 0xF4 b k.0 in four_at_ok b bs x r.0 r.1 k.1
        | inr k ↦ let f = k.1 in cc
      ]
    ]
  ]
]

-- The bytes of a character are read as it.

two_from : (c : ℕ) (rest : List ℕ) → 128 ≤ c → c < 2048 → utf8_at ((192 + c / 64) ∷ (128 + c % 64) ∷ rest) ≡ Ok (c, rest)
unfolding utf8_at two_at
two_from c rest low high =
    let b : ℕ = 192 + c / 64 in
    let x : ℕ = 128 + c % 64 in
    let code : (b - 192) * 64 + (x - 128) ≡ c = omega arith in
    rw (above 0x20 0x7F b (omega arith), within 0xC2 0xDF b (omega arith) (omega arith), byte_in_from 0x80 0xBF x rest (omega arith) (omega arith), code) refl

-- the second byte is in the range of the first, where its bounds hold at the four first bytes that narrow it
second_above : (b x : ℕ) → 128 ≤ x → (b ≡ 224 → 160 ≤ x) → (b ≡ 240 → 144 ≤ x) → second_byte_min b ≤ x
second_above b x low first second = grind (arith, nat_tests)

second_below : (b x : ℕ) → x ≤ 191 → (b ≡ 237 → x ≤ 159) → (b ≡ 244 → x ≤ 143) → x ≤ second_byte_max b
second_below b x high first second = grind (arith, nat_tests)

three_from : (c : ℕ) (rest : List ℕ) → IsScalar c → 2048 ≤ c → c < 65536 → utf8_at ((224 + c / 4096) ∷ (128 + c / 64 % 64) ∷ (128 + c % 64) ∷ rest) ≡ Ok (c, rest)
unfolding utf8_at three_at
three_from c rest is_scalar low high =
    let b : ℕ = 224 + c / 4096 in
    let x : ℕ = 128 + c / 64 % 64 in
    let y : ℕ = 128 + c % 64 in
    let ranges = scalar_cases c is_scalar in
    let low_x : second_byte_min b ≤ x = second_above b x (omega arith) (λ e. omega arith) (λ e. omega arith) in
    let high_x : x ≤ second_byte_max b = second_below b x (omega arith) (λ e. ⊎_elim (λ h. omega arith) (λ h. omega arith) ranges) (λ e. omega arith) in
    let code : ((b - 224) * 64 + (x - 128)) * 64 + (y - 128) ≡ c = omega arith in
    rw (
      above 0x20 0x7F b (omega arith),
      above 0xC2 0xDF b (omega arith),
      within 0xE0 0xEF b (omega arith) (omega arith),
      byte_in_from (second_byte_min b) (second_byte_max b) x (y ∷ rest) low_x high_x,
      byte_in_from 0x80 0xBF y rest (omega arith) (omega arith),
      code,
    ) refl

four_from : (c : ℕ) (rest : List ℕ) → 65536 ≤ c → c < 1114112 → utf8_at ((240 + c / 262144) ∷ (128 + c / 4096 % 64) ∷ (128 + c / 64 % 64) ∷ (128 + c % 64) ∷ rest) ≡ Ok (c, rest)
unfolding utf8_at four_at
four_from c rest low high =
    let b : ℕ = 240 + c / 262144 in
    let x : ℕ = 128 + c / 4096 % 64 in
    let y : ℕ = 128 + c / 64 % 64 in
    let z : ℕ = 128 + c % 64 in
    let low_x : second_byte_min b ≤ x = second_above b x (omega arith) (λ e. omega arith) (λ e. omega arith) in
    let high_x : x ≤ second_byte_max b = second_below b x (omega arith) (λ e. omega arith) (λ e. omega arith) in
    let code : (((b - 240) * 64 + (x - 128)) * 64 + (y - 128)) * 64 + (z - 128) ≡ c = omega arith in
    rw (
      above 0x20 0x7F b (omega arith),
      above 0xC2 0xDF b (omega arith),
      above 0xE0 0xEF b (omega arith),
      within 0xF0 0xF4 b (omega arith) (omega arith),
      byte_in_from (second_byte_min b) (second_byte_max b) x (y ∷ z ∷ rest) low_x high_x,
      byte_in_from 0x80 0xBF y (z ∷ rest) (omega arith) (omega arith),
      byte_in_from 0x80 0xBF z rest (omega arith) (omega arith),
      code,
    ) refl

one_from : (c : ℕ) (rest : List ℕ) → 32 ≤ c → c < 128 → utf8_at (c ∷ rest) ≡ Ok (c, rest)
unfolding utf8_at
one_from c rest low high = rw (within 0x20 0x7F c low (omega arith)) refl

-- the bytes of a character, whatever is behind them, are read as it
pub utf8_at-encode : (c : ℕ) (rest : List ℕ) → IsScalar c → 32 ≤ c → utf8_at (encode c ++ rest) ≡ Ok (c, rest)
unfolding encode
utf8_at-encode c rest is_scalar low = elim (cases_lt c 128) [
  | inl one ↦ rw (lt-ltb c 128 one) (one_from c rest low one)
  | inr more ↦ elim (cases_lt c 2048) [
    | inl two ↦ rw (le-ltb c 128 more, lt-ltb c 2048 two) (two_from c rest more two)
    | inr big ↦ elim (cases_lt c 65536) [
      | inl three ↦ rw (le-ltb c 128 more, le-ltb c 2048 big, lt-ltb c 65536 three) (three_from c rest is_scalar big three)
      | inr four ↦ let small = scalar_cases c is_scalar in
          rw (le-ltb c 128 more, le-ltb c 2048 big, le-ltb c 65536 four) (four_from c rest four (⊎_elim (λ h. omega arith) (λ h. h.1) small))
    ]
  ]
]
