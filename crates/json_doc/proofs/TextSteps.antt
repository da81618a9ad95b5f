-- How reading a text goes on, character by character and run by run.
use Rattle.std.proofs.Common.{◌≡◌, ◌≢◌, ℕ, zero, suc, ◌<◌, ◌≤◌, ◌==◌, true, false, cond, inl, inr, List, [], ◌∷◌, ◌++◌, length, drop, take, slice_index, get_or, Result, Ok, Err, refl, sym, ap, ◌∙◌, subst, arith, append_assoc, append-nil, length-append, ne_eqb}
use Rattle.std.specs.Str.{IsUtf8, IsValidUpTo, chars, all_scalars}
use Rattle.std.specs.Prelude.{encode_utf8_all}
use Rattle.std.proofs.Math.Utf8.{encode}
use Rattle.std.proofs.lemmas.Bool.{eqb-false, and_parts, or_parts, ltb-false, cases_lt}
use Rattle.std.proofs.lemmas.List.{take-append-drop, take-take, length-take}
use Rattle.std.proofs.lemmas.Str.{encode_ascii, chars-encodes}
use Rattle.json_doc.specs.declared.stop.Stop.{Stop}
use Rattle.json_doc.specs.declared.stop.Stop.TheVariants.{Syntax}
use Rattle.json_doc.specs.Reading.{Read}
use Rattle.texts.specs.Calls.{◌>>=◌}
use Rattle.json_doc.specs.TextToken.{utf8_at, char_at, text_within, text_at, with_front, ends_run}
use Rattle.json_doc.proofs.TokenParts.{chosen}
use Rattle.json_doc.proofs.Utf8Parts.{utf8_at_ok}
use Rattle.json_doc.proofs.Escapes.{escape_at_ok}
use Rattle.json_doc.proofs.TextScans.{length-encode-pos, plain_is_read}

-- a character takes a byte at least
pub char_shorter : (bs : List ℕ) (x : ℕ × List ℕ) → char_at bs ≡ Ok x → length x.1 < length bs
unfolding char_at
char_shorter [] x e = let t = utf8_at_ok [] x e in omega (arith, ap length t.2, length-append (encode x.0) x.1, length-encode-pos x.0)
char_shorter (b ∷ bs) x e = elim (chosen (b == 0x5C) _ _ _ e) [
  | inl h ↦ let t = escape_at_ok bs x h.1 in omega (arith, ap length t.2, length-append t.0 x.1)
  | inr h ↦ let t = utf8_at_ok (b ∷ bs) x h.1 in omega (arith, ap length t.2, length-append (encode x.0) x.1, length-encode-pos x.0)
]

-- what one step does with the rest, which it may ask of a shorter list alone
same_after : (read : Read ℕ) (f g : ℕ × List ℕ → Read (List ℕ)) → ((x : ℕ × List ℕ) → read ≡ Ok x → f x ≡ g x) → (read >>= f) ≡ (read >>= g)
same_after (Ok x) f g same = same x refl
same_after (Err stop) f g same = refl

no_bytes : (n : ℕ) → text_within n [] ≡ Err (Syntax 0)
unfolding char_at utf8_at
no_bytes zero = refl
no_bytes (suc n) = refl

-- the number of steps doesn't matter where there are as many as bytes
pub text_within-same : (n m : ℕ) (bs : List ℕ) → length bs ≤ n → length bs ≤ m → text_within n bs ≡ text_within m bs
text_within-same n m [] h i = no_bytes n ∙ sym (no_bytes m)
text_within-same zero m (b ∷ bs) h i = absurd (omega arith)
text_within-same (suc n) zero (b ∷ bs) h i = absurd (omega arith)
text_within-same (suc n) (suc m) (b ∷ bs) h i =
    ap (cond (b == 0x22) (Ok ([], bs)))
    (same_after (char_at (b ∷ bs)) _ _ (λ x e. let short = char_shorter (b ∷ bs) x e in
    ap (λ r. r >>= (λ cs. Ok (x.0 ∷ cs.0, cs.1))) (text_within-same n m x.1 (omega arith) (omega arith))))

some_bytes : (bs : List ℕ) (c : ℕ) (rest : List ℕ) → char_at bs ≡ Ok (c, rest) → 0 < length bs
some_bytes bs c rest e = let short = char_shorter bs (c, rest) e in omega arith

-- the closing quotation mark
pub text_at-end : (bs rest : List ℕ) → bs ≡ 0x22 ∷ rest → text_at bs ≡ Ok ([], rest)
unfolding text_at
text_at-end bs rest e = ap (λ cs. text_within (length cs) cs) e

-- the steps of a text whose first character was read
step_within : (n : ℕ) (bs : List ℕ) (c : ℕ) (rest : List ℕ) → slice_index bs 0 ≢ 0x22 → char_at bs ≡ Ok (c, rest) → length bs ≤ n → 0 < n → text_within n bs ≡ with_front (c ∷ []) (text_within (length rest) rest)
step_within zero bs c rest quote e fits some = absurd (omega arith)
step_within (suc n) bs c rest quote e fits some =
    let short = char_shorter bs (c, rest) e in
    rw (ne_eqb _ 0x22 quote, e, text_within-same n (length rest) rest (omega arith) (omega arith)) refl

-- a character in front
pub text_at-char : (bs : List ℕ) (c : ℕ) (rest : List ℕ) → slice_index bs 0 ≢ 0x22 → char_at bs ≡ Ok (c, rest) → text_at bs ≡ with_front (c ∷ []) (text_at rest)
unfolding text_at
text_at-char bs c rest quote e = step_within (length bs) bs c rest quote e (omega arith) (some_bytes bs c rest e)

fault_within : (n : ℕ) (bs : List ℕ) (stop : Stop) → slice_index bs 0 ≢ 0x22 → char_at bs ≡ Err stop → 0 < n → text_within n bs ≡ Err stop
fault_within zero bs stop quote e some = absurd (omega arith)
fault_within (suc n) bs stop quote e some = rw (ne_eqb _ 0x22 quote, e) refl

err_same : {A B : Type 0} (s t : Stop) → ◌≡◌ {A = Result A Stop} (Err s) (Err t) → ◌≡◌ {A = Result B Stop} (Err s) (Err t)
err_same s t e = let same : s ≡ t = cc in ap (λ stop. Err stop) same

-- no character in front
pub text_at-fault : (bs : List ℕ) (stop : Stop) → slice_index bs 0 ≢ 0x22 → char_at bs ≡ Err stop → text_at bs ≡ Err stop
unfolding text_at char_at utf8_at
text_at-fault [] stop quote e = err_same (Syntax 0) stop e
text_at-fault (b ∷ bs) stop quote e = fault_within (length (b ∷ bs)) (b ∷ bs) stop quote e (omega arith)

-- What was read behind characters.

pub with_front-nil : (read : Read (List ℕ)) → with_front [] read ≡ read
with_front-nil (Ok x) = refl
with_front-nil (Err stop) = refl

pub with_front-append : (xs ys : List ℕ) (read : Read (List ℕ)) → with_front xs (with_front ys read) ≡ with_front (xs ++ ys) read
with_front-append xs ys (Ok x) = ap (λ cs. Ok (cs, x.1)) (sym (append_assoc xs ys x.0))
with_front-append xs ys (Err stop) = refl

-- Runs.

-- no byte ends a run
abbrev pub IsRun : List ℕ → Type 0
IsRun [] = Unit {0}
IsRun (b ∷ bs) = (ends_run b ≡ false) × IsRun bs

pub IsRun-take : (n : ℕ) (bs : List ℕ) → n ≤ length bs → ((k : ℕ) → k < n → ends_run (get_or bs k 0) ≡ false) → IsRun (take n bs)
IsRun-take zero bs fits plain = tt
IsRun-take (suc n) [] fits plain = absurd (omega arith)
IsRun-take (suc n) (b ∷ bs) fits plain = (plain 0 (omega arith), IsRun-take n bs (omega arith) (λ k h. plain (suc k) (omega arith)))

IsRun-append : (xs ys : List ℕ) → IsRun (xs ++ ys) → IsRun xs × IsRun ys
IsRun-append [] ys h = (tt, h)
IsRun-append (x ∷ xs) ys h = let both = IsRun-append xs ys h.1 in ((h.0, both.0), both.1)

in_run : (b : ℕ) → ends_run b ≡ false → (0x20 ≤ b) × (b ≢ 0x22) × (b ≢ 0x5C)
in_run b e =
    let two = or_parts _ _ e in
    let one = or_parts _ _ two.0 in
    (ltb-false b 0x20 one.0, eqb-false b 0x22 one.1, eqb-false b 0x5C two.1)

-- a character of a run stands for itself
unescaped_in_run : (c : ℕ) → IsRun (encode c) → (0x20 ≤ c) × (c ≢ 0x22) × (c ≢ 0x5C)
unescaped_in_run c h = elim (cases_lt c 128) [
  | inl ascii ↦ let run : IsRun (c ∷ []) = subst IsRun (encode_ascii c ascii) h in in_run c run.0
  | inr wide ↦ (omega arith, (λ e. omega arith), (λ e. omega arith))
]

text_at-encoded : (cs more : List ℕ) → all_scalars cs ≡ true → IsRun (encode_utf8_all cs) → text_at (encode_utf8_all cs ++ more) ≡ with_front cs (text_at more)
text_at-encoded [] more scalar run = sym (with_front-nil (text_at more))
text_at-encoded (c ∷ cs) more scalar run =
    let s = and_parts _ _ scalar in
    let r = IsRun-append (encode c) (encode_utf8_all cs) run in
    let u = unescaped_in_run c r.0 in
    let p = plain_is_read c (encode_utf8_all cs ++ more) s.0 u.0 u.1 u.2 in
    ap text_at (append_assoc (encode c) (encode_utf8_all cs) more) ∙ text_at-char _ c (encode_utf8_all cs ++ more) p.no_quote p.read
    ∙ ap (with_front (c ∷ [])) (text_at-encoded cs more s.1 r.1) ∙ with_front-append (c ∷ []) cs (text_at more)

-- a run in UTF-8 stands for its characters
pub text_at-run : (bs : List ℕ) (n : ℕ) → n ≤ length bs → ((k : ℕ) → k < n → ends_run (get_or bs k 0) ≡ false) → IsUtf8 (take n bs) → text_at bs ≡ with_front (chars (take n bs)) (text_at (drop n bs))
text_at-run bs n fits plain utf8 =
    let run : IsRun (encode_utf8_all utf8.0) = subst IsRun (sym utf8.1.1) (IsRun-take n bs fits plain) in
    let whole : encode_utf8_all utf8.0 ++ drop n bs ≡ bs = ap (λ f. f ++ drop n bs) utf8.1.1 ∙ take-append-drop n bs in
    let same : chars (take n bs) ≡ utf8.0 = ap chars (sym utf8.1.1) ∙ chars-encodes utf8.0 utf8.1.0 in
    ap text_at (sym whole) ∙ text_at-encoded utf8.0 (drop n bs) utf8.1.0 run ∙ ap (λ cs. with_front cs (text_at (drop n bs))) (sym same)

-- the same of the front of a run that is UTF-8
pub text_at-run_front : (bs : List ℕ) (n m : ℕ) → n ≤ length bs → ((k : ℕ) → k < n → ends_run (get_or bs k 0) ≡ false) → IsValidUpTo (take n bs) m → text_at bs ≡ with_front (chars (take m bs)) (text_at (drop m bs))
text_at-run_front bs n m fits plain valid =
    let short : m < n = let s = valid.short in omega (arith, length-take n bs) in
    text_at-run bs m (omega arith) (λ k h. plain k (omega arith)) (subst IsUtf8 (take-take m n bs (omega arith)) valid.front)

-- Whole texts, from the parts that the reader has.

behind_front : (bs text rest run more new : List ℕ) (after : Read (List ℕ)) → text_at bs ≡ with_front text (text_at rest) → text_at rest ≡ with_front run (text_at more) → text_at more ≡ after → new ≡ text ++ run
    → text_at bs ≡ with_front new after
behind_front bs text rest run more new after e f g is =
    e ∙ ap (with_front text) (f ∙ ap (with_front run) g) ∙ with_front-append text run after ∙ ap (λ t. with_front t after) (sym is)

-- the closing quotation mark behind a run
pub text_at-closed : (bs text rest run more behind new : List ℕ) → text_at bs ≡ with_front text (text_at rest) → text_at rest ≡ with_front run (text_at more) → more ≡ 0x22 ∷ behind → new ≡ text ++ run → text_at bs ≡ Ok (new, behind)
text_at-closed bs text rest run more behind new e f quote is =
    behind_front bs text rest run more new (Ok ([], behind)) e f (text_at-end more behind quote) is ∙ ap (λ t. Ok (t, behind)) (append-nil new)

-- a character behind a run
pub text_at-further : (bs text rest run more others new : List ℕ) (c : ℕ) → text_at bs ≡ with_front text (text_at rest) → text_at rest ≡ with_front run (text_at more) → slice_index more 0 ≢ 0x22 → char_at more ≡ Ok (c, others) → new ≡ text ++ run
    → text_at bs ≡ with_front (new ++ c ∷ []) (text_at others)
text_at-further bs text rest run more others new c e f quote read is =
    behind_front bs text rest run more new (with_front (c ∷ []) (text_at others)) e f (text_at-char more c others quote read) is ∙ with_front-append new (c ∷ []) (text_at others)

-- no character behind a run
pub text_at-stopped : (bs text rest run more : List ℕ) (stop : Stop) → text_at bs ≡ with_front text (text_at rest) → text_at rest ≡ with_front run (text_at more) → slice_index more 0 ≢ 0x22 → char_at more ≡ Err stop → text_at bs ≡ Err stop
text_at-stopped bs text rest run more stop e f quote read = behind_front bs text rest run more (text ++ run) (Err stop) e f (text_at-fault more stop quote read) refl
