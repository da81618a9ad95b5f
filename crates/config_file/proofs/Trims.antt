-- What stands between blanks.
use Rattle.std.proofs.Common.{◌≡◌, ℕ, ◌+◌, ◌-◌, ◌<◌, ◌≤◌, true, false, List, [], ◌∷◌, ◌++◌, length, get_or, take, drop, reverse, eqb, sym, refl, ap, ◌∙◌, subst, ⊎_elim, append-nil, arith}
use Rattle.std.specs.Prelude.{All}
use Rattle.std.specs.List.{prefix_len, suffix_len}
use Rattle.std.proofs.lemmas.Bool.{or_left, or_right, eq-eqb, false_from_ne_true, false≢true, cases_lt}
use Rattle.std.proofs.lemmas.List.{get_or-reverse, length-reverse, get_or-take, get_or-drop, get_or_append_left, get_or_at, get_or-append_right, take-append-drop, take_at, drop_at, drop_all, length-append, length-take-le, length-drop, get_or_push, get_or_default}
use Rattle.std.proofs.lemmas.List.Sums.{prefix_len-le-length, prefix_len_passes, prefix_len_stops, prefix_len_is, suffix_len_is, suffix_len-le-length}
use Rattle.config_file.specs.Grammar.{IsBlank}
use Rattle.config_file.specs.Trimmed.{is_blank, blanks_before, blanks_behind, front_trimmed, end_trimmed}
use Rattle.config_file.proofs.Blanks.{blank_codes, blanks_before_is, blanks_behind_is}

-- the text doesn't begin with a blank
abbrev pub BeginsTrim : List ℕ → Type 0
BeginsTrim text = (b : ℕ) (rest : List ℕ) → text ≡ b ∷ rest → ¬ IsBlank b

-- and doesn't end with one
abbrev pub EndsTrim : List ℕ → Type 0
EndsTrim text = (front : List ℕ) (b : ℕ) → text ≡ front ++ b ∷ [] → ¬ IsBlank b

pub blank_test : (b : ℕ) → IsBlank b → is_blank b ≡ true
blank_test b blank = ⊎_elim (λ e. or_left (eqb b 32) (eqb b 9) (eq-eqb b 32 e)) (λ e. or_right (eqb b 32) (eqb b 9) (eq-eqb b 9 e)) blank

pub other_test : (b : ℕ) → ¬ IsBlank b → is_blank b ≡ false
other_test b other = false_from_ne_true (is_blank b) (λ blank. other (blank_codes b blank))

blank_at : (bs : List ℕ) (k : ℕ) → All IsBlank bs → k < length bs → is_blank (get_or bs k 0) ≡ true
blank_at bs k blank within = blank_test (get_or bs k 0) (blank k 0 within)

other_first : (bs rest : List ℕ) → BeginsTrim rest → length bs < length (bs ++ rest) → is_blank (get_or (bs ++ rest) (length bs) 0) ≡ false
other_first bs [] trim within = absurd (omega (arith, length-append bs []))
other_first bs (b ∷ rest) trim within =
    ap is_blank (get_or_at bs b rest 0 (length bs) refl) ∙ other_test b (trim b rest refl)

front_count : (bs rest : List ℕ) → All IsBlank bs → BeginsTrim rest → prefix_len is_blank (bs ++ rest) ≡ length bs
front_count bs rest blank trim = prefix_len_is is_blank (bs ++ rest) (length bs) 0 (omega (arith, length-append bs rest))
    (λ k low. ap is_blank (get_or_append_left bs rest 0 k low) ∙ blank_at bs k blank low)
    (λ within. other_first bs rest trim within)

-- blanks at the front are those before what doesn't begin with one
pub before_is : (bs rest : List ℕ) → All IsBlank bs → BeginsTrim rest → blanks_before (bs ++ rest) ≡ length bs
before_is bs rest blank trim = blanks_before_is (bs ++ rest) ∙ front_count bs rest blank trim

pub front_is : (bs rest : List ℕ) → All IsBlank bs → BeginsTrim rest → front_trimmed (bs ++ rest) ≡ rest
front_is bs rest blank trim = ap (λ n. drop n (bs ++ rest)) (before_is bs rest blank trim) ∙ drop_at bs rest (length bs) refl

pub record Front (text rest : List ℕ) : Type 0 where
  pub blanks : List ℕ
  pub is : text ≡ blanks ++ rest
  pub blank : All IsBlank blanks
  pub trim : BeginsTrim rest
  pub count : length blanks ≡ blanks_before text

taken_blank : (text : List ℕ) → All IsBlank (take (prefix_len is_blank text) text)
taken_blank text k d within =
    let n = prefix_len is_blank text in
    let size : length (take n text) ≡ n = length-take-le n text (prefix_len-le-length is_blank text) in
    let low : k < n = omega (arith, size) in
    blank_codes (get_or (take n text) k d) (ap is_blank (get_or-take n text k d low) ∙ prefix_len_passes is_blank text k d low)

dropped_trim : (text : List ℕ) → BeginsTrim (drop (prefix_len is_blank text) text)
dropped_trim text b rest is blank =
    let n = prefix_len is_blank text in
    ⊎_elim
    (λ (within : n < length text).
    let at : get_or text n 0 ≡ b = ap (λ k. get_or text k 0) (omega arith) ∙ sym (get_or-drop n text 0 0) ∙ ap (λ l. get_or l 0 0) is in
    false≢true (sym (prefix_len_stops is_blank text 0 within) ∙ ap is_blank at ∙ blank_test b blank))
    (λ (past : length text ≤ n). let e : [] ≡ b ∷ rest = sym (drop_all n text past) ∙ is in absurd (cc))
    (cases_lt n (length text))

-- a text is blanks and what is left without them
pub front_parts : (text : List ℕ) → Front text (front_trimmed text)
front_parts text =
    let same : blanks_before text ≡ prefix_len is_blank text = blanks_before_is text in
    record {
      blanks = take (prefix_len is_blank text) text;
      is = sym (take-append-drop (prefix_len is_blank text) text) ∙ ap (λ n. take (prefix_len is_blank text) text ++ drop n text) (sym same);
      blank = taken_blank text;
      trim = subst (λ n. BeginsTrim (drop n text)) (sym same) (dropped_trim text);
      count = length-take-le (prefix_len is_blank text) text (prefix_len-le-length is_blank text) ∙ sym same;
    }

pub last_of : (front : List ℕ) → 0 < length front → (most : List ℕ) × (b : ℕ) × (front ≡ most ++ b ∷ [])
last_of [] some = absurd (omega arith)
last_of (b ∷ []) some = ([], b, refl)
last_of (b ∷ c ∷ more) some =
    let rest = last_of (c ∷ more) (omega arith) in
    (b ∷ rest.0, rest.1, ap (λ xs. b ∷ xs) rest.2)

other_last : (front bs : List ℕ) → EndsTrim front → 0 < length front → is_blank (get_or (front ++ bs) (length front - 1) 0) ≡ false
other_last front bs trim some =
    let last = last_of front some in
    let size : length last.0 ≡ length front - 1 = omega (arith, ap length last.2, length-append last.0 (last.1 ∷ [])) in
    let low : length front - 1 < length front = omega arith in
    ap is_blank (get_or_append_left front bs 0 (length front - 1) low
    ∙ ap (λ l. get_or l (length front - 1) 0) last.2
    ∙ get_or_push last.0 last.1 0 (length front - 1) size)
    ∙ other_test last.1 (trim last.0 last.1 last.2)

end_count : (front bs : List ℕ) → EndsTrim front → All IsBlank bs → suffix_len is_blank (front ++ bs) ≡ length (front ++ bs) - length front
end_count front bs trim blank = suffix_len_is is_blank (front ++ bs) (length front) 0 (omega (arith, length-append front bs))
    (λ k low within.
    let at : k - length front < length bs = omega (arith, length-append front bs) in
    ap is_blank (get_or-append_right front bs (length front) k 0 refl low) ∙ blank_at bs (k - length front) blank at)
    (λ some. other_last front bs trim some)

-- without the blanks behind it, what doesn't end with one stays
pub end_is : (front bs : List ℕ) → EndsTrim front → All IsBlank bs → end_trimmed (front ++ bs) ≡ front
end_is front bs trim blank =
    let whole = front ++ bs in
    let n : length whole - blanks_behind whole ≡ length front =
    omega (arith, blanks_behind_is whole, end_count front bs trim blank, length-append front bs) in
    ap (λ k. take k whole) n ∙ take_at front bs (length front) refl

pub record End (text front : List ℕ) : Type 0 where
  pub blanks : List ℕ
  pub is : text ≡ front ++ blanks
  pub blank : All IsBlank blanks
  pub trim : EndsTrim front

behind_at : (text : List ℕ) (k : ℕ) → length text - suffix_len is_blank text ≤ k → k < length text → is_blank (get_or text k 0) ≡ true
behind_at text k low within =
    let j = length text - 1 - k in
    let small : j < prefix_len is_blank (reverse text) = omega (arith, suffix_len-le-length is_blank text) in
    let inside : j < length text = omega arith in
    let at : length text - 1 - j ≡ k = omega arith in
    ap is_blank (sym (get_or-reverse text j 0 inside ∙ ap (λ i. get_or text i 0) at)) ∙ prefix_len_passes is_blank (reverse text) j 0 small

before_at : (text : List ℕ) → suffix_len is_blank text < length text → is_blank (get_or text (length text - suffix_len is_blank text - 1) 0) ≡ false
before_at text some =
    let n = suffix_len is_blank text in
    let at : length text - 1 - n ≡ length text - n - 1 = omega arith in
    let within : n < length (reverse text) = omega (arith, length-reverse text) in
    ap is_blank (sym (get_or-reverse text n 0 some ∙ ap (λ i. get_or text i 0) at)) ∙ prefix_len_stops is_blank (reverse text) 0 within

behind_blank : (text : List ℕ) (n : ℕ) → n ≡ length text - suffix_len is_blank text → All IsBlank (drop n text)
behind_blank text n is k d within =
    let size = length-drop n text in
    let there : n + k < length text = omega (arith, size) in
    let low : length text - suffix_len is_blank text ≤ n + k = omega arith in
    subst IsBlank (sym (get_or-drop n text k d ∙ get_or_default text (n + k) d 0 there))
    (blank_codes (get_or text (n + k) 0) (behind_at text (n + k) low there))

before_trim : (text : List ℕ) (n : ℕ) → n ≡ length text - suffix_len is_blank text → EndsTrim (take n text)
before_trim text n is front b e blank =
    let fits : n ≤ length text = omega arith in
    let size : length (take n text) ≡ n = length-take-le n text fits in
    let parts : length (take n text) ≡ length front + 1 = ap length e ∙ length-append front (b ∷ []) in
    let some : suffix_len is_blank text < length text = omega (arith, suffix_len-le-length is_blank text) in
    let last : length front ≡ length text - suffix_len is_blank text - 1 = omega arith in
    let low : length front < n = omega arith in
    let at : get_or text (length text - suffix_len is_blank text - 1) 0 ≡ b =
    ap (λ k. get_or text k 0) (sym last) ∙ sym (get_or-take n text (length front) 0 low) ∙ ap (λ l. get_or l (length front) 0) e ∙ get_or_push front b 0 (length front) refl in
    false≢true (sym (before_at text some) ∙ ap is_blank at ∙ blank_test b blank)

-- a text is what is left without the blanks at its end, and these
pub end_parts : (text : List ℕ) → End text (end_trimmed text)
end_parts text =
    let n = length text - blanks_behind text in
    let same : n ≡ length text - suffix_len is_blank text = ap (λ k. length text - k) (blanks_behind_is text) in
    record {
      blanks = drop n text;
      is = sym (take-append-drop n text);
      blank = behind_blank text n same;
      trim = before_trim text n same;
    }

nothing_trim : BeginsTrim []
nothing_trim b rest is = absurd (cc)

-- blanks alone are nothing
pub front_nothing : (bs : List ℕ) → All IsBlank bs → front_trimmed bs ≡ []
front_nothing bs blank = ap front_trimmed (sym (append-nil bs)) ∙ front_is bs [] blank nothing_trim
