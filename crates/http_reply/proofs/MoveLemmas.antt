-- Moves from phase to phase: they stay as more bytes come, follow one another, and have one end.
use Rattle.std.proofs.Common.{◌≡◌, ℕ, zero, suc, Bool, List, ◌++◌, drop, refl, sym, ap, ◌∙◌, subst}
use Rattle.std.proofs.lemmas.List.{drop-append-le}
use Rattle.http_reply.specs.declared.outcome.Outcome.{Outcome}
use Rattle.http_reply.specs.Machine.{Phase, Step, wait, move, decide, Does, Moves, Leads, Decides, Awaits}
use Rattle.http_reply.proofs.StepLemmas.{one_step, stays, takes_within}

moves_more : (head_only : Bool) (n : ℕ) (p : Phase) (bytes : List ℕ) (q : Phase) (rest more : List ℕ)
    → Moves head_only n p bytes q rest → Moves head_only n p (bytes ++ more) q (rest ++ more)
moves_more head_only zero p bytes q rest more x = (x.0, ap (λ b. b ++ more) x.1)
moves_more head_only (suc n) p bytes q rest more x =
    let within = takes_within head_only p bytes x.0 x.1 x.2 in (
      x.0,
      x.1,
      stays head_only p bytes more (move x.0 x.1) x.2 tt,
      subst (λ b. Moves head_only n x.0 b q (rest ++ more)) (sym (drop-append-le x.1 bytes more within.1))
          (moves_more head_only n x.0 (drop x.1 bytes) q rest more x.3),
    )

-- moves stay as more bytes come
pub leads_more : (head_only : Bool) (p : Phase) (bytes : List ℕ) (q : Phase) (rest more : List ℕ)
    → Leads head_only p bytes q rest → Leads head_only p (bytes ++ more) q (rest ++ more)
leads_more head_only p bytes q rest more x = (x.0, moves_more head_only x.0 p bytes q rest more x.1)

moves_join : (head_only : Bool) (n : ℕ) (p : Phase) (bytes : List ℕ) (q : Phase) (rest : List ℕ) (r : Phase) (last : List ℕ)
    → Moves head_only n p bytes q rest → Leads head_only q rest r last → Leads head_only p bytes r last
moves_join head_only zero p bytes q rest r last x y =
    subst (λ a. Leads head_only a bytes r last) (sym x.0) (subst (λ b. Leads head_only q b r last) (sym x.1) y)
moves_join head_only (suc n) p bytes q rest r last x y =
    let tail = moves_join head_only n x.0 (drop x.1 bytes) q rest r last x.3 y in
    (suc tail.0, (x.0, x.1, x.2, tail.1))

-- moves follow one another
pub leads_join : (head_only : Bool) (p : Phase) (bytes : List ℕ) (q : Phase) (rest : List ℕ) (r : Phase) (last : List ℕ)
    → Leads head_only p bytes q rest → Leads head_only q rest r last → Leads head_only p bytes r last
leads_join head_only p bytes q rest r last x y = moves_join head_only x.0 p bytes q rest r last x.1 y

pub leads_none : (head_only : Bool) (p : Phase) (bytes : List ℕ) → Leads head_only p bytes p bytes
leads_none head_only p bytes = (0, (refl, refl))

pub leads_one : (head_only : Bool) (p : Phase) (bytes : List ℕ) (q : Phase) (k : ℕ)
    → Does head_only p bytes (move q k) → Leads head_only p bytes q (drop k bytes)
leads_one head_only p bytes q k x = (1, (q, k, x, (refl, refl)))

-- the step is no move
abbrev pub IsStop : Step → Type 0
IsStop wait = Unit {0}
IsStop (move q k) = ⊥
IsStop (decide outcome) = Unit {0}

no_move : (s : Step) (q : Phase) (k : ℕ) → s ≡ move q k → IsStop s → ⊥
no_move s q k e h = subst IsStop e h

-- what a run stops at
abbrev pub StopsAt : Bool → Phase → List ℕ → Phase → List ℕ → Step → Type 0
StopsAt head_only p bytes q rest s = Leads head_only p bytes q rest × Does head_only q rest s × IsStop s

one_end : (head_only : Bool) (n m : ℕ) (p : Phase) (bytes : List ℕ) (q r : Phase) (rest last : List ℕ) (s t : Step)
    → Moves head_only n p bytes q rest → Does head_only q rest s → IsStop s
    → Moves head_only m p bytes r last → Does head_only r last t → IsStop t
    → (q ≡ r) × (rest ≡ last) × (s ≡ t)
one_end head_only zero zero p bytes q r rest last s t x a i y b j =
    let here = subst (λ o. Does head_only o bytes s) (sym x.0) (subst (λ o. Does head_only q o s) (sym x.1) a) in
    let there = subst (λ o. Does head_only o bytes t) (sym y.0) (subst (λ o. Does head_only r o t) (sym y.1) b) in
    (sym x.0 ∙ y.0, sym x.1 ∙ y.1, one_step head_only p bytes s t here there)
one_end head_only zero (suc m) p bytes q r rest last s t x a i y b j =
    let here = subst (λ o. Does head_only o bytes s) (sym x.0) (subst (λ o. Does head_only q o s) (sym x.1) a) in
    absurd (no_move s y.0 y.1 (one_step head_only p bytes s (move y.0 y.1) here y.2) i)
one_end head_only (suc n) zero p bytes q r rest last s t x a i y b j =
    let there = subst (λ o. Does head_only o bytes t) (sym y.0) (subst (λ o. Does head_only r o t) (sym y.1) b) in
    absurd (no_move t x.0 x.1 (one_step head_only p bytes t (move x.0 x.1) there x.2) j)
one_end head_only (suc n) (suc m) p bytes q r rest last s t x a i y b j =
    let same = one_step head_only p bytes (move x.0 x.1) (move y.0 y.1) x.2 y.2 in
    let phase : x.0 ≡ y.0 = cc in
    let count : x.1 ≡ y.1 = cc in
    let tail = subst (λ o. Moves head_only m o (drop x.1 bytes) r last) (sym phase)
    (subst (λ k. Moves head_only m y.0 (drop k bytes) r last) (sym count) y.3) in
    one_end head_only n m x.0 (drop x.1 bytes) q r rest last s t x.3 a i tail b j

pub one_stop : (head_only : Bool) (p : Phase) (bytes : List ℕ) (q r : Phase) (rest last : List ℕ) (s t : Step)
    → StopsAt head_only p bytes q rest s → StopsAt head_only p bytes r last t → (q ≡ r) × (rest ≡ last) × (s ≡ t)
one_stop head_only p bytes q r rest last s t x y =
    one_end head_only x.0.0 y.0.0 p bytes q r rest last s t x.0.1 x.1 x.2 y.0.1 y.1 y.2

-- bytes decide one outcome
pub one_verdict : (head_only : Bool) (p : Phase) (bytes : List ℕ) (a b : Outcome)
    → Decides head_only p bytes a → Decides head_only p bytes b → a ≡ b
one_verdict head_only p bytes a b x y =
    let same = one_stop head_only p bytes x.0 y.0 x.1 y.1 (decide a) (decide b) (x.2, x.3, tt) (y.2, y.3, tt) in
    let steps = same.2 in cc

-- bytes that decide don't wait
pub not_both : (head_only : Bool) (p : Phase) (bytes : List ℕ) (a : Outcome) (q : Phase) (rest : List ℕ)
    → Decides head_only p bytes a → Awaits head_only p bytes q rest → ⊥
not_both head_only p bytes a q rest x y =
    let same = one_stop head_only p bytes x.0 q x.1 rest (decide a) wait (x.2, x.3, tt) (y.0, y.1, tt) in
    let steps = same.2 in cc

-- bytes wait in one way
pub one_wait : (head_only : Bool) (p : Phase) (bytes : List ℕ) (q r : Phase) (rest last : List ℕ)
    → Awaits head_only p bytes q rest → Awaits head_only p bytes r last → (q ≡ r) × (rest ≡ last)
one_wait head_only p bytes q r rest last x y =
    let same = one_stop head_only p bytes q r rest last wait wait (x.0, x.1, tt) (y.0, y.1, tt) in
    (same.0, same.1)

-- what a front decides, all bytes decide
pub decides_more : (head_only : Bool) (p : Phase) (bytes more : List ℕ) (a : Outcome)
    → Decides head_only p bytes a → Decides head_only p (bytes ++ more) a
decides_more head_only p bytes more a x =
    (x.0, x.1 ++ more, leads_more head_only p bytes x.0 x.1 more x.2, stays head_only x.0 x.1 more (decide a) x.3 tt)

-- moves before a verdict
pub decides_after : (head_only : Bool) (p : Phase) (bytes : List ℕ) (q : Phase) (rest : List ℕ) (a : Outcome)
    → Leads head_only p bytes q rest → Decides head_only q rest a → Decides head_only p bytes a
decides_after head_only p bytes q rest a x y =
    (y.0, y.1, leads_join head_only p bytes q rest y.0 y.1 x y.2, y.3)

-- moves before a wait
pub awaits_after : (head_only : Bool) (p : Phase) (bytes : List ℕ) (q : Phase) (rest : List ℕ) (r : Phase) (last : List ℕ)
    → Leads head_only p bytes q rest → Awaits head_only q rest r last → Awaits head_only p bytes r last
awaits_after head_only p bytes q rest r last x y =
    (leads_join head_only p bytes q rest r last x y.0, y.1)
