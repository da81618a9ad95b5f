-- Where heads and lines end as more bytes come.
use Rattle.std.proofs.Common.{◌≡◌, ℕ, zero, suc, ◌+◌, ◌<◌, ◌≤◌, min, Bool, true, false, cond, eqb, ◌&&◌, List, [], ◌∷◌, ◌++◌, length, get_or, drop, Option, None, Some, refl, sym, ap, ◌∙◌, subst, arith}
use Rattle.std.specs.Prelude.{option_map}
use Rattle.std.specs.Option.{option_or}
use Rattle.http_reply.specs.Cuts.{empty_line, head_end, line_end}

-- an end that was found stays, and a new one lies past the bytes that there were
abbrev pub Later : ℕ → Option ℕ → Option ℕ → Type 0
Later size None None = Unit {0}
Later size None (Some m) = size < m
Later size (Some n) None = ⊥
Later size (Some n) (Some m) = (m ≡ n) × (n ≤ size)

-- an end lies within so many bytes, and not at their start
abbrev pub IsEndWithin : ℕ → Option ℕ → Type 0
IsEndWithin size None = Unit {0}
IsEndWithin size (Some n) = (0 < n) × (n ≤ size)

abbrev next : Option ℕ → Option ℕ
next o = option_map (λ n. n + 1) o

Later-next : (size : ℕ) (a b : Option ℕ) → Later size a b → Later (suc size) (next a) (next b)
Later-next size None None h = tt
Later-next size None (Some m) h = omega arith
Later-next size (Some n) None h = h
Later-next size (Some n) (Some m) h = (ap (λ k. k + 1) h.0, omega arith)

IsEndWithin-next : (size : ℕ) (a : Option ℕ) → ((n : ℕ) → a ≡ Some n → n ≤ size) → IsEndWithin (suc size) (next a)
IsEndWithin-next size None h = tt
IsEndWithin-next size (Some n) h = let le = h n refl in (omega arith, omega arith)

within_le : (size : ℕ) (a : Option ℕ) → IsEndWithin size a → (n : ℕ) → a ≡ Some n → n ≤ size
within_le size None h n e = cc
within_le size (Some m) h n e = let same : m ≡ n = cc in omega arith

-- ---- lines

IsEndWithin-line : (size : ℕ) (c : Bool) (a : Option ℕ) → IsEndWithin size a → (n : ℕ) → cond c (Some 0) a ≡ Some n → n ≤ size
IsEndWithin-line size true a h n e = let same : 0 ≡ n = cc in omega arith
IsEndWithin-line size false a h n e = within_le size a h n e

Later-line : (size : ℕ) (c : Bool) (a b : Option ℕ) → Later size a b → Later size (cond c (Some 0) a) (cond c (Some 0) b)
Later-line size true a b h = (refl, omega arith)
Later-line size false a b h = h

pub line_end_within : (bytes : List ℕ) → IsEndWithin (length bytes) (line_end bytes)
line_end_within [] = tt
line_end_within (b ∷ bytes) =
    IsEndWithin-next (length bytes) _ (IsEndWithin-line (length bytes) (eqb b 10) (line_end bytes) (line_end_within bytes))

past_nothing : (a : Option ℕ) (size : ℕ) → IsEndWithin size a → Later 0 None a
past_nothing None size h = tt
past_nothing (Some n) size h = h.0

pub line_end_later : (bytes more : List ℕ) → Later (length bytes) (line_end bytes) (line_end (bytes ++ more))
line_end_later [] more = past_nothing (line_end more) _ (line_end_within more)
line_end_later (b ∷ bytes) more =
    Later-next (length bytes) _ _ (Later-line (length bytes) (eqb b 10) _ _ (line_end_later bytes more))

none_before : (c : Bool) (a : Option ℕ) → next (cond c (Some 0) a) ≡ None → (c ≡ false) × (a ≡ None)
none_before true a e = cc
none_before false None e = (refl, refl)
none_before false (Some n) e = cc

shifted : (k : ℕ) (a : Option ℕ) → next (option_map (λ n. n + k) a) ≡ option_map (λ n. n + suc k) a
shifted k None = refl
shifted k (Some n) = ap Some (omega arith)

-- where no line ends, the search goes on after it
pub line_end_from : (bytes more : List ℕ) → line_end bytes ≡ None
    → line_end (bytes ++ more) ≡ option_map (λ n. n + length bytes) (line_end (drop (length bytes) (bytes ++ more)))
line_end_from [] more h = unshifted (line_end more)
  where
    unshifted : (a : Option ℕ) → a ≡ option_map (λ n. n + 0) a
    unshifted None = refl
    unshifted (Some n) = ap Some (omega arith)
line_end_from (b ∷ bytes) more h =
    let parts = none_before (eqb b 10) (line_end bytes) h in
    ap (λ c. next (cond c (Some 0) (line_end (bytes ++ more)))) parts.0
    ∙ ap next (line_end_from bytes more parts.1)
    ∙ shifted (length bytes) (line_end (drop (length bytes) (bytes ++ more)))

-- ---- empty lines

pub empty_line_later : (bytes more : List ℕ) → Later (length bytes) (empty_line bytes) (empty_line (bytes ++ more))
empty_line_later [] more = past_nothing (empty_line more) 2 (chosen (eqb (get_or more 0 0) 10) (eqb (get_or more 0 0) 13 && eqb (get_or more 1 0) 10))
  where
    chosen : (lf crlf : Bool) → IsEndWithin 2 (cond lf (Some 1) (cond crlf (Some 2) None))
    chosen true crlf = (omega arith, omega arith)
    chosen false true = (omega arith, omega arith)
    chosen false false = tt
empty_line_later (a ∷ []) more = chosen (eqb a 10) (eqb a 13) (eqb (get_or more 0 0) 10)
  where
    chosen : (lf cr other : Bool) → Later 1 (cond lf (Some 1) (cond (cr && false) (Some 2) None)) (cond lf (Some 1) (cond (cr && other) (Some 2) None))
    chosen true cr other = (refl, omega arith)
    chosen false true true = omega arith
    chosen false true false = tt
    chosen false false other = tt
empty_line_later (a ∷ b ∷ bytes) more = chosen (eqb a 10) (eqb a 13) (eqb b 10)
  where
    chosen : (lf cr other : Bool) → Later (suc (suc (length bytes))) (cond lf (Some 1) (cond (cr && other) (Some 2) None)) (cond lf (Some 1) (cond (cr && other) (Some 2) None))
    chosen true cr other = (refl, omega arith)
    chosen false true true = (refl, omega arith)
    chosen false true false = tt
    chosen false false other = tt

pub empty_line_within : (bytes : List ℕ) → IsEndWithin (min 2 (length bytes)) (empty_line bytes)
empty_line_within [] = tt
empty_line_within (a ∷ []) = chosen (eqb a 10) (eqb a 13)
  where
    chosen : (lf cr : Bool) → IsEndWithin 1 (cond lf (Some 1) (cond (cr && false) (Some 2) None))
    chosen true cr = (omega arith, omega arith)
    chosen false true = tt
    chosen false false = tt
empty_line_within (a ∷ b ∷ bytes) = chosen (eqb a 10) (eqb a 13 && eqb b 10)
  where
    chosen : (lf crlf : Bool) → IsEndWithin (min 2 (suc (suc (length bytes)))) (cond lf (Some 1) (cond crlf (Some 2) None))
    chosen true crlf = (omega arith, omega arith)
    chosen false true = (omega arith, omega arith)
    chosen false false = tt

-- two bytes tell whether an empty line begins
empty_line-two : (bytes more : List ℕ) → 2 ≤ length bytes → empty_line (bytes ++ more) ≡ empty_line bytes
empty_line-two [] more h = absurd (omega arith)
empty_line-two (a ∷ []) more h = absurd (omega arith)
empty_line-two (a ∷ b ∷ bytes) more h = refl

-- ---- heads

IsEndWithin-or : (size : ℕ) (c : Bool) (e a : Option ℕ) → IsEndWithin (min 2 size) e → IsEndWithin size a
    → (n : ℕ) → option_or (cond c e None) a ≡ Some n → n ≤ size
IsEndWithin-or size true None a within h n e = within_le size a h n e
IsEndWithin-or size true (Some m) a within h n e = let same : m ≡ n = cc in omega arith
IsEndWithin-or size false e a within h n same = within_le size a h n same

pub head_end_within : (bytes : List ℕ) → IsEndWithin (length bytes) (head_end bytes)
head_end_within [] = tt
head_end_within (b ∷ bytes) =
    IsEndWithin-next (length bytes) _
    (IsEndWithin-or (length bytes) (eqb b 10) _ _ (empty_line_within bytes) (head_end_within bytes))

head_end_short : (bytes : List ℕ) → length bytes ≤ 1 → head_end bytes ≡ None
head_end_short [] h = refl
head_end_short (b ∷ []) h = chosen (eqb b 10)
  where
    chosen : (c : Bool) → next (option_or (cond c None None) None) ≡ None
    chosen true = refl
    chosen false = refl
head_end_short (b ∷ c ∷ bytes) h = absurd (omega arith)

Later-or : (size : ℕ) (c : Bool) (e f a b : Option ℕ) → (size ≤ 1 → a ≡ None) → IsEndWithin 2 f
    → Later size e f → Later size a b → Later size (option_or (cond c e None) a) (option_or (cond c f None) b)
Later-or size false e f a b short two empty h = h
Later-or size true None None a b short two empty h = h
Later-or size true None (Some m) a b short two empty h =
    subst (λ x. Later size x (Some m)) (sym (short (omega arith))) empty
Later-or size true (Some k) None a b short two empty h = absurd empty
Later-or size true (Some k) (Some m) a b short two empty h = empty

within_two : (size : ℕ) (e : Option ℕ) → IsEndWithin (min 2 size) e → IsEndWithin 2 e
within_two size None h = tt
within_two size (Some n) h = (h.0, omega arith)

pub head_end_later : (bytes more : List ℕ) → Later (length bytes) (head_end bytes) (head_end (bytes ++ more))
head_end_later [] more = past_nothing (head_end more) _ (head_end_within more)
head_end_later (b ∷ bytes) more =
    Later-next (length bytes) _ _
    (Later-or (length bytes) (eqb b 10) (empty_line bytes) (empty_line (bytes ++ more)) _ _
    (head_end_short bytes) (within_two _ _ (empty_line_within (bytes ++ more))) (empty_line_later bytes more) (head_end_later bytes more))

none_in : (c : Bool) (e a : Option ℕ) → next (option_or (cond c e None) a) ≡ None → (cond c e None ≡ None) × (a ≡ None)
none_in false e None h = (refl, refl)
none_in false e (Some n) h = cc
none_in true None None h = (refl, refl)
none_in true None (Some n) h = cc
none_in true (Some m) a h = cc

-- where no head ends, the search goes on from its last two bytes
pub head_end_from : (k : ℕ) (bytes more : List ℕ) → k + 2 ≤ length bytes → head_end bytes ≡ None
    → head_end (bytes ++ more) ≡ option_map (λ n. n + k) (head_end (drop k (bytes ++ more)))
head_end_from zero bytes more two h = unshifted (head_end (bytes ++ more))
  where
    unshifted : (a : Option ℕ) → a ≡ option_map (λ n. n + 0) a
    unshifted None = refl
    unshifted (Some n) = ap Some (omega arith)
head_end_from (suc k) [] more two h = absurd (omega arith)
head_end_from (suc k) (b ∷ bytes) more two h =
    let parts = none_in (eqb b 10) (empty_line bytes) (head_end bytes) h in
    let none : cond (eqb b 10) (empty_line (bytes ++ more)) None ≡ None =
    ap (λ e. cond (eqb b 10) e None) (empty_line-two bytes more (omega arith)) ∙ parts.0 in
    ap (λ e. next (option_or e (head_end (bytes ++ more)))) none
    ∙ ap next (head_end_from k bytes more (omega arith) parts.1)
    ∙ shifted k (head_end (drop k (bytes ++ more)))
