-- Bytes, an end and a fault have one outcome, and what a front decides stays.
use Rattle.std.proofs.Common.{◌≡◌, ℕ, ◌+◌, ◌-◌, ◌<◌, ◌≤◌, ◌⊎◌, inl, inr, Bool, List, [], ◌++◌, length, take, Option, Some, refl, sym, ap, ◌∙◌, subst, arith, append-nil, length-append}
use Rattle.std.proofs.lemmas.Bool.{cases_lt, false≢true}
use Rattle.std.proofs.Math.Seq.{take-append-add}
use Rattle.std.proofs.lemmas.List.{take_all, take-append-le}
use Rattle.aws_world.specs.declared.link.LinkFault.{LinkFault}
use Rattle.aws_world.specs.declared.message.Reply.{Reply}
use Rattle.http_reply.specs.declared.outcome.Outcome.{Outcome}
use Rattle.http_reply.specs.declared.outcome.Outcome.TheVariants.{Whole, Lost, Cut, Malformed, TooLarge, OutOfMemory}
use Rattle.http_reply.specs.Machine.{Phase, heads, to_end, Decides, Awaits, with_more}
use Rattle.http_reply.specs.Outcome.{seen, HasVerdict, IsWaiting, Waits, IsCutIn, HasEnded, IsOutcome}
use Rattle.http_reply.specs.Laws.{IsSame, HasOneOutcome, FrontDecides}
use Rattle.http_reply.proofs.MoveLemmas.{one_verdict, not_both, one_wait, decides_more}

-- what the end and the fault make of a phase that waits
abbrev pub EndsAs : Phase → List ℕ → Bool → Option LinkFault → Outcome → Type 0
EndsAs q rest ended fault (Lost kind) = fault ≡ Some kind
EndsAs q rest ended fault Cut = IsCutIn q × HasEnded ended fault
EndsAs q rest ended fault (Whole reply) = (start : Reply) × (q ≡ to_end start) × HasEnded ended fault × (reply ≡ with_more start rest)
EndsAs q rest ended fault Malformed = ⊥
EndsAs q rest ended fault TooLarge = ⊥
EndsAs q rest ended fault OutOfMemory = ⊥

-- the bytes past the limit of all
abbrev pub IsPast : Bool → List ℕ → Type 0
IsPast head_only received = Waits head_only (seen received) × (268435456 < length received)

-- the three ways to an outcome: the bytes decide, they are too many, or the peer's end does
abbrev pub Ends : Bool → List ℕ → Bool → Option LinkFault → Outcome → Type 0
Ends head_only received ended fault a =
    HasVerdict head_only received a
    ⊎ ((IsPast head_only received × (a ≡ TooLarge))
    ⊎ ((q : Phase) × (rest : List ℕ) × IsWaiting head_only received q rest × EndsAs q rest ended fault a))

pub ends : (head_only : Bool) (received : List ℕ) (ended : Bool) (fault : Option LinkFault) (a : Outcome)
    → IsOutcome head_only received ended fault a → (a ≡ OutOfMemory) ⊎ Ends head_only received ended fault a
ends head_only received ended fault (Whole reply) (inl x) = inr (inl x)
ends head_only received ended fault (Whole reply) (inr x) = inr (inr (inr (to_end x.0, x.1, x.2, (x.0, refl, x.3, x.4))))
ends head_only received ended fault (Lost kind) x = inr (inr (inr (x.0.0, x.0.1, x.0.2, x.1)))
ends head_only received ended fault Cut x = inr (inr (inr (x.0, x.1, x.2, (x.3, x.4))))
ends head_only received ended fault Malformed x = inr (inl x)
ends head_only received ended fault TooLarge (inl x) = inr (inl x)
ends head_only received ended fault TooLarge (inr x) = inr (inr (inl (x, refl)))
ends head_only received ended fault OutOfMemory x = inl refl

-- bytes within the limit are all seen
pub seen_all : (received : List ℕ) → length received ≤ 268435456 → seen received ≡ received
seen_all received h = take_all 268435456 received h

pub waits_seen : (head_only : Bool) (received : List ℕ) (q : Phase) (rest : List ℕ)
    → IsWaiting head_only received q rest → Awaits head_only (heads 0) (seen received) q rest
waits_seen head_only received q rest x =
    subst (λ b. Awaits head_only (heads 0) b q rest) (sym (seen_all received x.1)) x.0

one_cause : (q : Phase) (rest : List ℕ) (ended : Bool) (fault : Option LinkFault) (a b : Outcome)
    → EndsAs q rest ended fault a → EndsAs q rest ended fault b → a ≡ b
one_cause q rest ended fault (Lost kind) (Lost other) x y = let same : kind ≡ other = cc in ap Lost same
one_cause q rest ended fault (Lost kind) Cut x y = let apart = y.1.1 in cc
one_cause q rest ended fault (Lost kind) (Whole reply) x y = let apart = y.2.1 in cc
one_cause q rest ended fault Cut (Lost kind) x y = let apart = x.1.1 in cc
one_cause q rest ended fault Cut Cut x y = refl
one_cause q rest ended fault Cut (Whole reply) x y = absurd (subst IsCutIn y.1 x.0)
one_cause q rest ended fault (Whole reply) (Lost kind) x y = let apart = x.2.1 in cc
one_cause q rest ended fault (Whole reply) Cut x y = absurd (subst IsCutIn x.1 y.0)
one_cause q rest ended fault (Whole reply) (Whole other) x y =
    let start : x.0 ≡ y.0 = cc in
    ap Whole (x.3 ∙ ap (λ s. with_more s rest) start ∙ sym y.3)
one_cause q rest ended fault Malformed b x y = absurd x
one_cause q rest ended fault TooLarge b x y = absurd x
one_cause q rest ended fault OutOfMemory b x y = absurd x
one_cause q rest ended fault (Lost kind) Malformed x y = absurd y
one_cause q rest ended fault (Lost kind) TooLarge x y = absurd y
one_cause q rest ended fault (Lost kind) OutOfMemory x y = absurd y
one_cause q rest ended fault Cut Malformed x y = absurd y
one_cause q rest ended fault Cut TooLarge x y = absurd y
one_cause q rest ended fault Cut OutOfMemory x y = absurd y
one_cause q rest ended fault (Whole reply) Malformed x y = absurd y
one_cause q rest ended fault (Whole reply) TooLarge x y = absurd y
one_cause q rest ended fault (Whole reply) OutOfMemory x y = absurd y

one_end : (head_only : Bool) (received : List ℕ) (ended : Bool) (fault : Option LinkFault) (a b : Outcome)
    → Ends head_only received ended fault a → Ends head_only received ended fault b → a ≡ b
one_end head_only received ended fault a b (inl x) (inl y) = one_verdict head_only (heads 0) (seen received) a b x y
one_end head_only received ended fault a b (inl x) (inr (inl y)) =
    absurd (not_both head_only (heads 0) (seen received) a y.0.0.0 y.0.0.1 x y.0.0.2.0)
one_end head_only received ended fault a b (inl x) (inr (inr y)) =
    absurd (not_both head_only (heads 0) (seen received) a y.0 y.1 x (waits_seen head_only received y.0 y.1 y.2))
one_end head_only received ended fault a b (inr (inl x)) (inl y) =
    absurd (not_both head_only (heads 0) (seen received) b x.0.0.0 x.0.0.1 y x.0.0.2.0)
one_end head_only received ended fault a b (inr (inl x)) (inr (inl y)) = x.1 ∙ sym y.1
one_end head_only received ended fault a b (inr (inl x)) (inr (inr y)) =
    let past = x.0.1 in let within = y.2.1 in absurd (omega arith)
one_end head_only received ended fault a b (inr (inr x)) (inl y) =
    absurd (not_both head_only (heads 0) (seen received) b x.0 x.1 y (waits_seen head_only received x.0 x.1 x.2))
one_end head_only received ended fault a b (inr (inr x)) (inr (inl y)) =
    let past = y.0.1 in let within = x.2.1 in absurd (omega arith)
one_end head_only received ended fault a b (inr (inr x)) (inr (inr y)) =
    let same = one_wait head_only (heads 0) received x.0 y.0 x.1 y.1 x.2.0 y.2.0 in
    let cause = subst (λ q. EndsAs q x.1 ended fault b) (sym same.0)
    (subst (λ rest. EndsAs y.0 rest ended fault b) (sym same.1) y.3) in
    one_cause x.0 x.1 ended fault a b x.3 cause

joined : (head_only : Bool) (received : List ℕ) (ended : Bool) (fault : Option LinkFault) (a b : Outcome)
    → (a ≡ OutOfMemory) ⊎ Ends head_only received ended fault a → (b ≡ OutOfMemory) ⊎ Ends head_only received ended fault b → IsSame a b
joined head_only received ended fault a b (inl x) y = inr (inl x)
joined head_only received ended fault a b (inr x) (inl y) = inr (inr y)
joined head_only received ended fault a b (inr x) (inr y) = inl (one_end head_only received ended fault a b x y)

pub has_one_outcome : HasOneOutcome
has_one_outcome head_only received ended fault a b x y =
    joined head_only received ended fault a b (ends head_only received ended fault a x) (ends head_only received ended fault b y)

take_past : (m : ℕ) (front more : List ℕ) → length front ≤ m → take m (front ++ more) ≡ front ++ take (m - length front) more
take_past m front more h =
    let e : m ≡ length front + (m - length front) = omega arith in
    ap (λ k. take k (front ++ more)) e ∙ take-append-add front more (m - length front)

-- what is seen of more bytes
seen_more : (front more : List ℕ) → (rest : List ℕ) × (seen (front ++ more) ≡ seen front ++ rest)
seen_more front more =
    elim (cases_lt 268435456 (length front)) [
      | inl past ↦ ([], take-append-le 268435456 front more (omega arith) ∙ sym (append-nil (seen front)))
      | inr within ↦ (
        take (268435456 - length front) more,
        take_past 268435456 front more within ∙ ap (λ b. b ++ take (268435456 - length front) more) (sym (seen_all front within)),
      )
    ]

verdict_more : (head_only : Bool) (front more : List ℕ) (a : Outcome)
    → HasVerdict head_only front a → HasVerdict head_only (front ++ more) a
verdict_more head_only front more a x =
    let all = seen_more front more in
    subst (λ b. Decides head_only (heads 0) b a) (sym all.1) (decides_more head_only (heads 0) (seen front) all.0 a x)

past_more : (head_only : Bool) (front more : List ℕ) → IsPast head_only front → IsPast head_only (front ++ more)
past_more head_only front more x =
    let past = x.1 in
    let longer = length-append front more in
    let same = take-append-le 268435456 front more (omega arith) in
    (subst (λ b. Waits head_only b) (sym same) x.0, omega arith)

pub front_decides : FrontDecides
front_decides head_only front more ended fault (Whole reply) (inl x) = inl (verdict_more head_only front more (Whole reply) x)
front_decides head_only front more ended fault (Whole reply) (inr x) = absurd (false≢true x.3.0)
front_decides head_only front more ended fault (Lost kind) x = let apart = x.1 in cc
front_decides head_only front more ended fault Cut x = absurd (false≢true x.4.0)
front_decides head_only front more ended fault Malformed x = verdict_more head_only front more Malformed x
front_decides head_only front more ended fault TooLarge (inl x) = inl (verdict_more head_only front more TooLarge x)
front_decides head_only front more ended fault TooLarge (inr x) = inr (past_more head_only front more x)
front_decides head_only front more ended fault OutOfMemory x = tt
