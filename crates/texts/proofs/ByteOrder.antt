-- The order of texts by code points is that of their bytes in UTF-8.
use Rattle.std.proofs.Common.{◌≡◌, ◌≤◌, ◌<◌, ℕ, ◌+◌, ◌/◌, ◌%◌, List, [], ◌∷◌, ◌++◌, ◌⊎◌, inl, inr, refl, sym, ap, ◌∙◌, arith}
use Rattle.std.specs.Prelude.{encode_utf8_all}
use Rattle.std.specs.declared.cmp.Ordering.{Ordering}
use Rattle.std.specs.declared.cmp.Ordering.TheVariants.{Less, Equal, Greater}
use Rattle.std.specs.Ordering.{nat_cmp, ordering_then, ordering_reverse}
use Rattle.std.specs.Cmp.Lexicographic.{slice_cmp, nat_list_cmp_total}
use Rattle.std.proofs.Math.Nat.{div-div-eq-div-mul}
use Rattle.std.proofs.Math.Utf8.{encode}
use Rattle.std.specs.Str.{chars, IsUtf8}
use Rattle.std.proofs.lemmas.Str.{encodes-chars}
use Rattle.std.proofs.lemmas.Bool.{lt-ltb, le-ltb, cases_lt}
use Rattle.std.proofs.lemmas.Bool.Decides.{nat_tests}
use Rattle.texts.specs.Order.{text_cmp}

less_by : (x y : ℕ) → x < y → nat_cmp x y ≡ Less
less_by x y h = grind (arith, nat_tests)

equal_by : (x y : ℕ) → x ≡ y → nat_cmp x y ≡ Equal
equal_by x y e = grind (arith, nat_tests)

less_head : (x y : ℕ) (xs ys : List ℕ) → x < y → text_cmp (x ∷ xs) (y ∷ ys) ≡ Less
less_head x y xs ys h = ap (λ o. ordering_then o (text_cmp xs ys)) (less_by x y h)

same_head : (x y : ℕ) (xs ys : List ℕ) → x ≡ y → text_cmp (x ∷ xs) (y ∷ ys) ≡ text_cmp xs ys
same_head x y xs ys e = ap (λ o. ordering_then o (text_cmp xs ys)) (equal_by x y e)

same_front : (front xs ys : List ℕ) → text_cmp (front ++ xs) (front ++ ys) ≡ text_cmp xs ys
same_front [] xs ys = refl
same_front (x ∷ front) xs ys = same_head x x (front ++ xs) (front ++ ys) refl ∙ same_front front xs ys

-- A number as digits to the base 64, the last ones as the bytes that go on in UTF-8.

abbrev next : ℕ → ℕ
next c = 128 + c % 64

abbrev two : ℕ → ℕ → List ℕ → List ℕ
two base c xs = (base + c / 64) ∷ next c ∷ xs

abbrev three : ℕ → ℕ → List ℕ → List ℕ
three base c xs = two base (c / 64) (next c ∷ xs)

abbrev four : ℕ → ℕ → List ℕ → List ℕ
four base c xs = three base (c / 64) (next c ∷ xs)

-- of two numbers the less has the less front, or the same one and the less last digit
split : (c d : ℕ) → c < d → (c / 64 < d / 64) ⊎ ((c / 64 ≡ d / 64) × (c % 64 < d % 64))
split c d h = elim (cases_lt (c / 64) (d / 64)) [ inl below ↦ inl below | inr above ↦ inr (omega arith, omega arith) ]

less_two : (base c d : ℕ) (xs ys : List ℕ) → c < d → text_cmp (two base c xs) (two base d ys) ≡ Less
less_two base c d xs ys h = elim (split c d h) [
  | inl below ↦ less_head (base + c / 64) (base + d / 64) (next c ∷ xs) (next d ∷ ys) (omega arith)
  | inr w ↦ same_head (base + c / 64) (base + d / 64) (next c ∷ xs) (next d ∷ ys) (omega (arith, w.0)) ∙ less_head (next c) (next d) xs ys (omega (arith, w.1))
]

same_two : (base c d : ℕ) (xs ys : List ℕ) → c ≡ d → text_cmp (two base c xs) (two base d ys) ≡ text_cmp xs ys
same_two base c d xs ys e =
    same_head (base + c / 64) (base + d / 64) (next c ∷ xs) (next d ∷ ys) (ap (λ n. base + n / 64) e) ∙ same_head (next c) (next d) xs ys (ap next e)

less_three : (base c d : ℕ) (xs ys : List ℕ) → c < d → text_cmp (three base c xs) (three base d ys) ≡ Less
less_three base c d xs ys h = elim (split c d h) [
  | inl below ↦ less_two base (c / 64) (d / 64) (next c ∷ xs) (next d ∷ ys) below
  | inr w ↦ same_two base (c / 64) (d / 64) (next c ∷ xs) (next d ∷ ys) w.0 ∙ less_head (next c) (next d) xs ys (omega (arith, w.1))
]

same_three : (base c d : ℕ) (xs ys : List ℕ) → c ≡ d → text_cmp (three base c xs) (three base d ys) ≡ text_cmp xs ys
same_three base c d xs ys e =
    same_two base (c / 64) (d / 64) (next c ∷ xs) (next d ∷ ys) (ap (λ n. n / 64) e) ∙ same_head (next c) (next d) xs ys (ap next e)

less_four : (base c d : ℕ) (xs ys : List ℕ) → c < d → text_cmp (four base c xs) (four base d ys) ≡ Less
less_four base c d xs ys h = elim (split c d h) [
  | inl below ↦ less_three base (c / 64) (d / 64) (next c ∷ xs) (next d ∷ ys) below
  | inr w ↦ same_three base (c / 64) (d / 64) (next c ∷ xs) (next d ∷ ys) w.0 ∙ less_head (next c) (next d) xs ys (omega (arith, w.1))
]

-- How many bytes a character has, and which.

data Width (c : ℕ) : Type 0 where
  one_byte : c < 128 → Width c
  two_bytes : 128 ≤ c → c < 2048 → Width c
  three_bytes : 2048 ≤ c → c < 65536 → Width c
  four_bytes : 65536 ≤ c → Width c

width : (c : ℕ) → Width c
width c = elim (cases_lt c 128) [
  | inl h ↦ one_byte h
  | inr h ↦ elim (cases_lt c 2048) [
    | inl k ↦ two_bytes h k
    | inr k ↦ elim (cases_lt c 65536) [ inl l ↦ three_bytes k l | inr l ↦ four_bytes l ]
  ]
]

one_is : (c : ℕ) (xs : List ℕ) → c < 128 → encode c ++ xs ≡ c ∷ xs
unfolding encode
one_is c xs h = rw (lt-ltb c 128 h) refl

two_is : (c : ℕ) (xs : List ℕ) → 128 ≤ c → c < 2048 → encode c ++ xs ≡ two 192 c xs
unfolding encode
two_is c xs h k = rw (le-ltb c 128 h, lt-ltb c 2048 k) refl

three_is : (c : ℕ) (xs : List ℕ) → 2048 ≤ c → c < 65536 → encode c ++ xs ≡ three 224 c xs
unfolding encode
three_is c xs h k =
    rw (le-ltb c 128 (omega arith), le-ltb c 2048 h, lt-ltb c 65536 k) (ap (λ n. (224 + n) ∷ next (c / 64) ∷ next c ∷ xs) (sym (div-div-eq-div-mul c 64 64)))

four_is : (c : ℕ) (xs : List ℕ) → 65536 ≤ c → encode c ++ xs ≡ four 240 c xs
unfolding encode
four_is c xs h =
    let front : c / 262144 ≡ c / 64 / 64 / 64 = sym (ap (λ n. n / 64) (div-div-eq-div-mul c 64 64) ∙ div-div-eq-div-mul c 4096 64) in
    let middle : c / 4096 ≡ c / 64 / 64 = sym (div-div-eq-div-mul c 64 64) in
    rw (le-ltb c 128 (omega arith), le-ltb c 2048 (omega arith), le-ltb c 65536 h)
    (ap (λ n. (240 + n) ∷ next (c / 4096) ∷ next (c / 64) ∷ next c ∷ xs) front ∙ ap (λ n. (240 + c / 64 / 64 / 64) ∷ next n ∷ next (c / 64) ∷ next c ∷ xs) middle)

-- texts whose first bytes differ
apart : (us vs xs ys : List ℕ) (x y : ℕ) → us ≡ x ∷ xs → vs ≡ y ∷ ys → x < y → text_cmp us vs ≡ Less
apart us vs xs ys x y e f h = rw (e, f) (less_head x y xs ys h)

-- texts that begin with these bytes
along : (us vs us' vs' : List ℕ) (o : Ordering) → us ≡ us' → vs ≡ vs' → text_cmp us' vs' ≡ o → text_cmp us vs ≡ o
along us vs us' vs' o e f h = rw (e, f) h

less_chars : (c d : ℕ) (xs ys : List ℕ) → Width c → Width d → c < d → text_cmp (encode c ++ xs) (encode d ++ ys) ≡ Less
less_chars c d xs ys (one_byte a) (one_byte b) h = apart _ _ _ _ c d (one_is c xs a) (one_is d ys b) h
less_chars c d xs ys (one_byte a) (two_bytes b b') h = apart _ _ _ _ c (192 + d / 64) (one_is c xs a) (two_is d ys b b') (omega arith)
less_chars c d xs ys (one_byte a) (three_bytes b b') h = apart _ _ _ _ c (224 + d / 64 / 64) (one_is c xs a) (three_is d ys b b') (omega arith)
less_chars c d xs ys (one_byte a) (four_bytes b) h = apart _ _ _ _ c (240 + d / 64 / 64 / 64) (one_is c xs a) (four_is d ys b) (omega arith)
less_chars c d xs ys (two_bytes a a') (one_byte b) h = absurd (omega arith)
less_chars c d xs ys (two_bytes a a') (two_bytes b b') h = along _ _ _ _ _ (two_is c xs a a') (two_is d ys b b') (less_two 192 c d xs ys h)
less_chars c d xs ys (two_bytes a a') (three_bytes b b') h = apart _ _ _ _ (192 + c / 64) (224 + d / 64 / 64) (two_is c xs a a') (three_is d ys b b') (omega arith)
less_chars c d xs ys (two_bytes a a') (four_bytes b) h = apart _ _ _ _ (192 + c / 64) (240 + d / 64 / 64 / 64) (two_is c xs a a') (four_is d ys b) (omega arith)
less_chars c d xs ys (three_bytes a a') (one_byte b) h = absurd (omega arith)
less_chars c d xs ys (three_bytes a a') (two_bytes b b') h = absurd (omega arith)
less_chars c d xs ys (three_bytes a a') (three_bytes b b') h = along _ _ _ _ _ (three_is c xs a a') (three_is d ys b b') (less_three 224 c d xs ys h)
less_chars c d xs ys (three_bytes a a') (four_bytes b) h = apart _ _ _ _ (224 + c / 64 / 64) (240 + d / 64 / 64 / 64) (three_is c xs a a') (four_is d ys b) (omega arith)
less_chars c d xs ys (four_bytes a) (one_byte b) h = absurd (omega arith)
less_chars c d xs ys (four_bytes a) (two_bytes b b') h = absurd (omega arith)
less_chars c d xs ys (four_bytes a) (three_bytes b b') h = absurd (omega arith)
less_chars c d xs ys (four_bytes a) (four_bytes b) h = along _ _ _ _ _ (four_is c xs a) (four_is d ys b) (less_four 240 c d xs ys h)

less_bytes : (c d : ℕ) (xs ys : List ℕ) → c < d → text_cmp (encode c ++ xs) (encode d ++ ys) ≡ Less
less_bytes c d xs ys h = less_chars c d xs ys (width c) (width d) h

greater_bytes : (c d : ℕ) (xs ys : List ℕ) → d < c → text_cmp (encode c ++ xs) (encode d ++ ys) ≡ Greater
greater_bytes c d xs ys h = nat_list_cmp_total.antisymm (encode c ++ xs) (encode d ++ ys) ∙ ap ordering_reverse (less_bytes d c ys xs h)

greater_by : (x y : ℕ) → y < x → nat_cmp x y ≡ Greater
greater_by x y h = grind (arith, nat_tests)

-- a character has a byte

some_after : (us vs : List ℕ) (x : ℕ) → us ≡ x ∷ vs → (text_cmp [] us ≡ Less) × (text_cmp us [] ≡ Greater)
some_after us vs x e = (rw e refl, rw e refl)

some_bytes : (c : ℕ) (xs : List ℕ) → Width c → (text_cmp [] (encode c ++ xs) ≡ Less) × (text_cmp (encode c ++ xs) [] ≡ Greater)
some_bytes c xs (one_byte a) = some_after _ _ _ (one_is c xs a)
some_bytes c xs (two_bytes a a') = some_after _ _ _ (two_is c xs a a')
some_bytes c xs (three_bytes a a') = some_after _ _ _ (three_is c xs a a')
some_bytes c xs (four_bytes a) = some_after _ _ _ (four_is c xs a)

heads : (c d : ℕ) (cs ds : List ℕ) → text_cmp (encode_utf8_all cs) (encode_utf8_all ds) ≡ text_cmp cs ds
    → text_cmp (encode c ++ encode_utf8_all cs) (encode d ++ encode_utf8_all ds) ≡ text_cmp (c ∷ cs) (d ∷ ds)
heads c d cs ds rest = elim (cases_lt c d) [
  | inl less ↦ less_bytes c d _ _ less ∙ sym (less_head c d cs ds less)
  | inr h ↦ elim (cases_lt d c) [
    | inl more ↦ greater_bytes c d _ _ more ∙ sym (ap (λ o. ordering_then o (text_cmp cs ds)) (greater_by c d more))
    | inr k ↦
        let same : c ≡ d = omega arith in
        ap (λ n. text_cmp (encode n ++ encode_utf8_all cs) (encode d ++ encode_utf8_all ds)) same
        ∙ same_front (encode d) (encode_utf8_all cs) (encode_utf8_all ds) ∙ rest ∙ sym (same_head c d cs ds same)
  ]
]

pub text_cmp-bytes : (a b : List ℕ) → slice_cmp nat_cmp (encode_utf8_all a) (encode_utf8_all b) ≡ text_cmp a b
text_cmp-bytes [] [] = refl
text_cmp-bytes [] (d ∷ ds) = (some_bytes d (encode_utf8_all ds) (width d)).0
text_cmp-bytes (c ∷ cs) [] = (some_bytes c (encode_utf8_all cs) (width c)).1
text_cmp-bytes (c ∷ cs) (d ∷ ds) = heads c d cs ds (text_cmp-bytes cs ds)

-- bytes in UTF-8 stand in the order of their characters
pub bytes_cmp-chars : (a b : List ℕ) → IsUtf8 a → IsUtf8 b → slice_cmp nat_cmp a b ≡ text_cmp (chars a) (chars b)
bytes_cmp-chars a b u v =
    ap (λ bytes. slice_cmp nat_cmp bytes b) (sym (encodes-chars a u)) ∙ ap (slice_cmp nat_cmp (encode_utf8_all (chars a))) (sym (encodes-chars b v))
    ∙ text_cmp-bytes (chars a) (chars b)
