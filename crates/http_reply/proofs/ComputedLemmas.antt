-- The outcome that is computed is the one that the relation names.
use Rattle.std.proofs.Common.{◌≡◌, ◌≢◌, ℕ, zero, suc, ◌+◌, ◌<◌, ◌≤◌, ◌⊎◌, inl, inr, ⊎_elim, Bool, true, false, cond, eqb, leb, ltb, List, [], ◌∷◌, length, take, drop, Option, None, Some, MatchBool, refl, sym, ap, ◌∙◌, subst, arith, length-drop, length-take-le}
use Rattle.std.specs.Prelude.{MatchOption, is_some}
use Rattle.std.proofs.lemmas.Bool.{false≢true, ltb-true, ltb-false}
use Rattle.httparse.specs.Grammar.{ResponseHead, ChunkLine, ReadsChunkLine, chunk_size}
use Rattle.aws_world.specs.declared.link.LinkFault.{LinkFault}
use Rattle.aws_world.specs.declared.message.Reply.{Reply}
use Rattle.http_reply.specs.declared.kinds.Kind.{Kind}
use Rattle.http_reply.specs.declared.kinds.Kind.TheVariants.{Interim, NoBody, Chunked, Fixed, ToEnd, Malformed as Bad, TooLarge as Big}
use Rattle.http_reply.specs.declared.outcome.Outcome.{Outcome}
use Rattle.http_reply.specs.declared.outcome.Outcome.TheVariants.{Whole, Lost, Cut, Malformed, TooLarge, OutOfMemory}
use Rattle.http_reply.specs.Cuts.{empty_line, head_end, line_end}
use Rattle.http_reply.specs.Kinds.{kind_of}
use Rattle.http_reply.specs.Machine.{Phase, heads, fixed, lines, chunk, trailers, to_end, Step, wait, move, decide, with_more, reply_of, ReadsHead, after_head, JudgesHead, CutsHead, JudgesLine, CutsLine, after_chunk, trailer_step, Does, Decides, Awaits}
use Rattle.http_reply.specs.Outcome.{seen, HasVerdict, IsWaiting, Waits, IsOutcome}
use Rattle.http_reply.specs.Laws.{IsSame}
use Rattle.http_reply.specs.Readers.{head_in, chunk_line_in}
use Rattle.http_reply.specs.Computed.{head_judged, head_step, line_judged, line_step, next_step, End, awaiting, decided, after_step, end_of, at_end, when_awaiting, outcome_at, outcome_of, OutcomeIsThere, OutcomeIsComputed}
use Rattle.http_reply.proofs.ReaderLemmas.{head_in_is, chunk_line_in_is}
use Rattle.http_reply.proofs.StepLemmas.{takes_within}
use Rattle.http_reply.proofs.MoveLemmas.{leads_none, leads_one, decides_after, awaits_after, not_both}
use Rattle.http_reply.proofs.OutcomeLemmas.{EndsAs, Ends, ends, seen_all, waits_seen, has_one_outcome}

-- ---- steps

judged : (head_only : Bool) (used : ℕ) (head : List ℕ) (o : Option ResponseHead)
    → MatchOption o ((h : ResponseHead) → ReadsHead head h → ⊥) (ReadsHead head) → JudgesHead head_only used head (head_judged head_only used (length head) o)
judged head_only used head None none = inr (none, refl)
judged head_only used head (Some h) some = inl (h, some, refl)

by_test : (c : Bool) (P : Step → Type 0) (s : Step) → P s → MatchBool c (P (cond c s (decide TooLarge))) (cond c s (decide TooLarge) ≡ decide TooLarge)
by_test true P s x = x
by_test false P s x = refl

cuts_head : (head_only : Bool) (used : ℕ) (bytes : List ℕ) (o : Option ℕ) → CutsHead head_only used bytes o (head_step head_only used bytes o)
cuts_head head_only used bytes None = refl
cuts_head head_only used bytes (Some n) =
    by_test _ (JudgesHead head_only used (take n bytes)) _ (judged head_only used (take n bytes) (head_in (take n bytes)) (head_in_is (take n bytes)))

judged_line : (reply : Reply) (used : ℕ) (line : List ℕ) (o : Option ChunkLine)
    → MatchOption o ((l : ChunkLine) → ReadsChunkLine line l [] → ⊥) (λ l. ReadsChunkLine line l []) → JudgesLine reply used line (line_judged reply used (length line) o)
judged_line reply used line None none = inr (none, refl)
judged_line reply used line (Some l) some = inl (l, some, refl)

cuts_line : (reply : Reply) (used : ℕ) (bytes : List ℕ) (o : Option ℕ) → CutsLine reply used bytes o (line_step reply used bytes o)
cuts_line reply used bytes None = refl
cuts_line reply used bytes (Some n) =
    by_test _ (JudgesLine reply used (take n bytes)) _ (judged_line reply used (take n bytes) (chunk_line_in (take n bytes)) (chunk_line_in_is (take n bytes)))

does_next : (head_only : Bool) (p : Phase) (bytes : List ℕ) → Does head_only p bytes (next_step head_only p bytes)
does_next head_only (heads used) bytes = cuts_head head_only used bytes (head_end bytes)
does_next head_only (fixed reply size) bytes = refl
does_next head_only (lines reply used) bytes = cuts_line reply used bytes (line_end bytes)
does_next head_only (chunk reply used size) bytes = refl
does_next head_only (trailers reply used) bytes = refl
does_next head_only (to_end reply) bytes = refl

-- bytes decide that a reply is whole, malformed or too large, and nothing else
abbrev IsVerdict : Outcome → Type 0
IsVerdict (Whole reply) = Unit {0}
IsVerdict Malformed = Unit {0}
IsVerdict TooLarge = Unit {0}
IsVerdict (Lost kind) = ⊥
IsVerdict Cut = ⊥
IsVerdict OutOfMemory = ⊥

abbrev IsPlain : Step → Type 0
IsPlain wait = Unit {0}
IsPlain (move q k) = Unit {0}
IsPlain (decide outcome) = IsVerdict outcome

plain_either : (c : Bool) (s t : Step) → IsPlain s → IsPlain t → IsPlain (cond c s t)
plain_either true s t x y = x
plain_either false s t x y = y

plain_after : (used size : ℕ) (reply : Reply) (kind : Kind) → IsPlain (after_head used size reply kind)
plain_after used size reply Interim = tt
plain_after used size reply NoBody = tt
plain_after used size reply Chunked = tt
plain_after used size reply (Fixed n) = tt
plain_after used size reply ToEnd = tt
plain_after used size reply Bad = tt
plain_after used size reply Big = tt

plain_judged : (head_only : Bool) (used size : ℕ) (o : Option ResponseHead) → IsPlain (head_judged head_only used size o)
plain_judged head_only used size None = tt
plain_judged head_only used size (Some h) = plain_after used size (reply_of h) (kind_of head_only (reply_of h).status (reply_of h).headers)

plain_head : (head_only : Bool) (used : ℕ) (bytes : List ℕ) (o : Option ℕ) → IsPlain (head_step head_only used bytes o)
plain_head head_only used bytes None = plain_either _ wait (decide TooLarge) tt tt
plain_head head_only used bytes (Some n) =
    plain_either _ (head_judged head_only used (length (take n bytes)) (head_in (take n bytes))) (decide TooLarge) (plain_judged head_only used (length (take n bytes)) (head_in (take n bytes))) tt

plain_judged_line : (reply : Reply) (used size : ℕ) (o : Option ChunkLine) → IsPlain (line_judged reply used size o)
plain_judged_line reply used size None = tt
plain_judged_line reply used size (Some l) =
    let fits = leb (length reply.body + chunk_size l) 67108864 in
    let more : Step = move (chunk reply used (chunk_size l)) size in
    plain_either (eqb (chunk_size l) 0) (move (trailers reply used) size) (cond fits more (decide TooLarge)) tt
    (plain_either fits more (decide TooLarge) tt tt)

plain_line : (reply : Reply) (used : ℕ) (bytes : List ℕ) (o : Option ℕ) → IsPlain (line_step reply used bytes o)
plain_line reply used bytes None = plain_either _ wait (decide TooLarge) tt tt
plain_line reply used bytes (Some n) =
    plain_either _ (line_judged reply used (length (take n bytes)) (chunk_line_in (take n bytes))) (decide TooLarge) (plain_judged_line reply used (length (take n bytes)) (chunk_line_in (take n bytes))) tt

plain_chunk : (q : Phase) (k : ℕ) (bytes : List ℕ) → IsPlain (after_chunk (move q k) bytes)
plain_chunk q k [] = tt
plain_chunk q k (b ∷ []) = plain_either _ wait (decide Malformed) tt tt
plain_chunk q k (b ∷ (c ∷ bytes)) = plain_either _ (move q k) (decide Malformed) tt tt

plain_trailer : (reply : Reply) (used : ℕ) (bytes : List ℕ) (o : Option ℕ) → IsPlain (trailer_step reply used bytes o)
plain_trailer reply used bytes None = plain_either _ wait (decide TooLarge) tt tt
plain_trailer reply used bytes (Some n) =
    plain_either _ (cond (is_some (empty_line (take n bytes))) (decide (Whole reply)) (move (trailers reply (used + n)) n)) (decide TooLarge)
    (plain_either _ (decide (Whole reply)) (move (trailers reply (used + n)) n) tt tt) tt

plain_next : (head_only : Bool) (p : Phase) (bytes : List ℕ) → IsPlain (next_step head_only p bytes)
plain_next head_only (heads used) bytes = plain_head head_only used bytes (head_end bytes)
plain_next head_only (fixed reply size) bytes = plain_either _ (decide (Whole (with_more reply (take size bytes)))) wait tt tt
plain_next head_only (lines reply used) bytes = plain_line reply used bytes (line_end bytes)
plain_next head_only (chunk reply used size) bytes = plain_chunk (lines (with_more reply (take size bytes)) used) (size + 2) (drop size bytes)
plain_next head_only (trailers reply used) bytes = plain_trailer reply used bytes (line_end bytes)
plain_next head_only (to_end reply) bytes = plain_either _ wait (decide TooLarge) tt tt

-- ---- runs

abbrev IsEnd : Bool → Phase → List ℕ → End → Type 0
IsEnd head_only p bytes (awaiting q rest) = Awaits head_only p bytes q rest
IsEnd head_only p bytes (decided outcome) = Decides head_only p bytes outcome × IsVerdict outcome

end_after : (head_only : Bool) (p : Phase) (bytes : List ℕ) (q : Phase) (k : ℕ) (e : End) → Does head_only p bytes (move q k)
    → IsEnd head_only q (drop k bytes) e → IsEnd head_only p bytes e
end_after head_only p bytes q k (awaiting r rest) x y =
    awaits_after head_only p bytes q (drop k bytes) r rest (leads_one head_only p bytes q k x) y
end_after head_only p bytes q k (decided outcome) x y =
    (decides_after head_only p bytes q (drop k bytes) outcome (leads_one head_only p bytes q k x) y.0, y.1)

step_end : (n : ℕ) (head_only : Bool) (p : Phase) (bytes : List ℕ) → length bytes < suc n
    → ((q : Phase) (rest : List ℕ) → length rest < n → IsEnd head_only q rest (end_of n head_only q rest))
    → (s : Step) → Does head_only p bytes s → IsPlain s → IsEnd head_only p bytes (after_step p bytes (λ q k. end_of n head_only q (drop k bytes)) s)
step_end n head_only p bytes few ih wait x y = (leads_none head_only p bytes, x)
step_end n head_only p bytes few ih (move q k) x y =
    let within = takes_within head_only p bytes q k x in
    let left = length-drop k bytes in
    end_after head_only p bytes q k (end_of n head_only q (drop k bytes)) x (ih q (drop k bytes) (omega arith))
step_end n head_only p bytes few ih (decide outcome) x y = ((p, bytes, leads_none head_only p bytes, x), y)

end_is : (n : ℕ) (head_only : Bool) (p : Phase) (bytes : List ℕ) → length bytes < n → IsEnd head_only p bytes (end_of n head_only p bytes)
end_is zero head_only p bytes few = absurd (omega arith)
end_is (suc n) head_only p bytes few =
    step_end n head_only p bytes few (λ q rest h. end_is n head_only q rest h) (next_step head_only p bytes) (does_next head_only p bytes) (plain_next head_only p bytes)

-- ---- outcomes

abbrev IsThere : Bool → List ℕ → Bool → Option LinkFault → Option Outcome → Type 0
IsThere head_only received ended fault o =
    MatchOption o (Waits head_only received × (ended ≡ false) × (fault ≡ None)) (λ outcome. IsOutcome head_only received ended fault outcome × (outcome ≢ OutOfMemory))

there_decided : (head_only : Bool) (received : List ℕ) (ended : Bool) (fault : Option LinkFault) (a : Outcome)
    → HasVerdict head_only received a → IsVerdict a → IsThere head_only received ended fault (Some a)
there_decided head_only received ended fault (Whole reply) x y = (inl x, λ e. cc)
there_decided head_only received ended fault Malformed x y = (x, λ e. cc)
there_decided head_only received ended fault TooLarge x y = (inl x, λ e. cc)
there_decided head_only received ended fault (Lost kind) x y = absurd y
there_decided head_only received ended fault Cut x y = absurd y
there_decided head_only received ended fault OutOfMemory x y = absurd y

there_at_end : (head_only : Bool) (received : List ℕ) (q : Phase) (rest : List ℕ) → IsWaiting head_only received q rest
    → IsThere head_only received true None (Some (at_end q rest))
there_at_end head_only received (to_end start) rest w = (inr (start, rest, w, (refl, refl), refl), λ e. cc)
there_at_end head_only received (heads used) rest w = ((heads used, rest, w, tt, (refl, refl)), λ e. cc)
there_at_end head_only received (fixed reply size) rest w = ((fixed reply size, rest, w, tt, (refl, refl)), λ e. cc)
there_at_end head_only received (lines reply used) rest w = ((lines reply used, rest, w, tt, (refl, refl)), λ e. cc)
there_at_end head_only received (chunk reply used size) rest w = ((chunk reply used size, rest, w, tt, (refl, refl)), λ e. cc)
there_at_end head_only received (trailers reply used) rest w = ((trailers reply used, rest, w, tt, (refl, refl)), λ e. cc)

there_awaiting : (head_only : Bool) (received : List ℕ) (ended : Bool) (fault : Option LinkFault) (q : Phase) (rest : List ℕ)
    → IsWaiting head_only received q rest → IsThere head_only received ended fault (when_awaiting q rest ended fault)
there_awaiting head_only received ended (Some kind) q rest w = (((q, rest, w), refl), λ e. cc)
there_awaiting head_only received true None q rest w = there_at_end head_only received q rest w
there_awaiting head_only received false None q rest w = ((q, rest, w), refl, refl)

there_within : (head_only : Bool) (received : List ℕ) (ended : Bool) (fault : Option LinkFault) (q : Phase) (rest : List ℕ) (c : Bool)
    → ltb 268435456 (length received) ≡ c → Awaits head_only (heads 0) (seen received) q rest
    → IsThere head_only received ended fault (cond c (Some TooLarge) (when_awaiting q rest ended fault))
there_within head_only received ended fault q rest true e x =
    let past = ltb-true 268435456 (length received) e in
    let size : length (seen received) ≤ 268435456 = omega (arith, length-take-le 268435456 received (omega arith)) in
    (inr ((q, rest, (x, size)), past), λ e. cc)
there_within head_only received ended fault q rest false e x =
    let within = ltb-false 268435456 (length received) e in
    there_awaiting head_only received ended fault q rest (subst (λ b. Awaits head_only (heads 0) b q rest) (seen_all received within) x, within)

there_by : (head_only : Bool) (received : List ℕ) (ended : Bool) (fault : Option LinkFault) (e : End)
    → IsEnd head_only (heads 0) (seen received) e → IsThere head_only received ended fault (outcome_at received ended fault e)
there_by head_only received ended fault (decided a) x = there_decided head_only received ended fault a x.0 x.1
there_by head_only received ended fault (awaiting q rest) x =
    there_within head_only received ended fault q rest (ltb 268435456 (length received)) refl x

pub outcome_is_there : OutcomeIsThere
unfolding outcome_of
outcome_is_there head_only received ended fault =
    there_by head_only received ended fault (end_of (suc (length (seen received))) head_only (heads 0) (seen received))
    (end_is (suc (length (seen received))) head_only (heads 0) (seen received) (omega arith))

none_ends : (q : Phase) (rest : List ℕ) (ended : Bool) (fault : Option LinkFault) (a : Outcome) → ended ≡ false → fault ≡ None → EndsAs q rest ended fault a → ⊥
none_ends q rest ended fault (Lost kind) goes quiet x = cc
none_ends q rest ended fault Cut goes quiet x = false≢true (sym goes ∙ x.1.0)
none_ends q rest ended fault (Whole reply) goes quiet x = false≢true (sym goes ∙ x.2.0)
none_ends q rest ended fault Malformed goes quiet x = x
none_ends q rest ended fault TooLarge goes quiet x = x
none_ends q rest ended fault OutOfMemory goes quiet x = x

-- bytes that decide nothing have no outcome while the peer goes on
no_end : (head_only : Bool) (received : List ℕ) (ended : Bool) (fault : Option LinkFault) (a : Outcome)
    → Waits head_only received → ended ≡ false → fault ≡ None → Ends head_only received ended fault a → ⊥
no_end head_only received ended fault a w goes quiet (inl x) =
    not_both head_only (heads 0) (seen received) a w.0 w.1 x (waits_seen head_only received w.0 w.1 w.2)
no_end head_only received ended fault a w goes quiet (inr (inl x)) =
    let past = x.0.1 in let within = w.2.1 in omega arith
no_end head_only received ended fault a w goes quiet (inr (inr x)) = none_ends x.0 x.1 ended fault a goes quiet x.3

same_of : (a b : Outcome) → b ≢ OutOfMemory → IsSame a b → (a ≡ OutOfMemory) ⊎ (Some b ≡ Some a)
same_of a b some (inl e) = inr (ap Some (sym e))
same_of a b some (inr (inl e)) = inl e
same_of a b some (inr (inr e)) = absurd (some e)

computed_by : (head_only : Bool) (received : List ℕ) (ended : Bool) (fault : Option LinkFault) (o : Option Outcome) (a : Outcome)
    → IsThere head_only received ended fault o → IsOutcome head_only received ended fault a → (a ≡ OutOfMemory) ⊎ (o ≡ Some a)
computed_by head_only received ended fault None a there x =
    ⊎_elim (λ e. inl e) (λ (y : Ends head_only received ended fault a). absurd (no_end head_only received ended fault a there.0 there.1 there.2 y))
    (ends head_only received ended fault a x)
computed_by head_only received ended fault (Some b) a there x =
    same_of a b there.1 (has_one_outcome head_only received ended fault a b x there.0)

pub outcome_is_computed : OutcomeIsComputed
outcome_is_computed head_only received ended fault a = (
  λ x. computed_by head_only received ended fault (outcome_of head_only received ended fault) a (outcome_is_there head_only received ended fault) x,
  λ x. ⊎_elim (λ (e : a ≡ OutOfMemory). subst (IsOutcome head_only received ended fault) (sym e) tt)
      (λ (e : outcome_of head_only received ended fault ≡ Some a).
      let there : IsThere head_only received ended fault (Some a) = subst (IsThere head_only received ended fault) e (outcome_is_there head_only received ended fault) in there.0) x,
)
