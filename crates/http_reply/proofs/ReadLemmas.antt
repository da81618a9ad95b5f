-- What one more piece makes of a reader that waits.
use Rattle.std.proofs.Common.{◌≡◌, ℕ, ◌+◌, ◌<◌, ◌≤◌, Bool, false, None, List, ◌++◌, length, take, drop, sym, ap, ◌∙◌, subst, arith, append_assoc, length-append}
use Rattle.std.proofs.lemmas.List.{take-append-drop, take_at, length-take-le}
use Rattle.aws_world.specs.declared.message.Reply.{Reply}
use Rattle.http_reply.specs.declared.outcome.Outcome.{Outcome}
use Rattle.http_reply.specs.declared.outcome.Outcome.TheVariants.{Whole, Malformed, TooLarge}
use Rattle.http_reply.specs.declared.steps.Due.{Due}
use Rattle.http_reply.specs.declared.reader.Reached.{Reached}
use Rattle.http_reply.specs.declared.reader.Reached.TheVariants as reached
use Rattle.http_reply.specs.declared.reader.ReplyReader.{ReplyReader}
use Rattle.http_reply.specs.Machine.{Phase, heads, Leads, Decides, Awaits, with_more}
use Rattle.http_reply.specs.Outcome.{seen, HasVerdict, IsWaiting, Waits, IsOutcome}
use Rattle.http_reply.specs.Reading.{phase_of, Fits, Reaches}
use Rattle.http_reply.specs.Waiting.{WaitsAfter}
use Rattle.http_reply.proofs.MoveLemmas.{leads_more, decides_after, awaits_after}
use Rattle.http_reply.proofs.OutcomeLemmas.{seen_all, front_decides}

module _ (head_only : Bool) (received piece : List ℕ) (reader : ReplyReader) (bytes : List ℕ)
    (waits : WaitsAfter head_only received reader) (few : reader.count + length piece ≤ 268435456)
    (bytes_are : bytes ≡ reader.rest.items ++ piece) where
  leads_on : Leads head_only (heads 0) (received ++ piece) (phase_of reader.due reader.reply) bytes
  leads_on =
      subst (λ b. Leads head_only (heads 0) (received ++ piece) (phase_of reader.due reader.reply) b) (sym bytes_are)
      (leads_more head_only (heads 0) received (phase_of reader.due reader.reply) reader.rest.items piece waits.waiting.0.0)

  within : length (received ++ piece) ≤ 268435456
  within = let counted = waits.counted in omega (arith, length-append received piece)

  -- what the bytes that are left decide, all bytes decide
  pub verdict_after : (outcome : Outcome) → Decides reader.head_only (phase_of reader.due reader.reply) bytes outcome
      → HasVerdict head_only (received ++ piece) outcome
  verdict_after outcome x =
      let decides = subst (λ h. Decides h (phase_of reader.due reader.reply) bytes outcome) waits.method x in
      subst (λ b. Decides head_only (heads 0) b outcome) (sym (seen_all (received ++ piece) within))
      (decides_after head_only (heads 0) (received ++ piece) (phase_of reader.due reader.reply) bytes outcome leads_on decides)

  -- where the bytes that are left wait, all bytes do
  pub waiting_after : (q : Phase) (rest : List ℕ) → Awaits reader.head_only (phase_of reader.due reader.reply) bytes q rest
      → IsWaiting head_only (received ++ piece) q rest
  waiting_after q rest x =
      let awaits = subst (λ h. Awaits h (phase_of reader.due reader.reply) bytes q rest) waits.method x in
      (awaits_after head_only (heads 0) (received ++ piece) (phase_of reader.due reader.reply) bytes q rest leads_on awaits, within)

  -- what was reached, by its variant
  pub reached_is : (after : Reply) (r s : Reached) → r ≡ s → Reaches reader.head_only (phase_of reader.due reader.reply) bytes after r
      → Reaches reader.head_only (phase_of reader.due reader.reply) bytes after s
  reached_is after r s e x = subst (λ t. Reaches reader.head_only (phase_of reader.due reader.reply) bytes after t) e x

  pub whole_after : (after : Reply) (r : Reached) → Reaches reader.head_only (phase_of reader.due reader.reply) bytes after r
      → r ≡ reached.Whole → HasVerdict head_only (received ++ piece) (Whole after)
  whole_after after r x e = verdict_after (Whole after) (reached_is after r reached.Whole e x).0

  pub whole_with_after : (after : Reply) (r : Reached) (at size : ℕ) → Reaches reader.head_only (phase_of reader.due reader.reply) bytes after r
      → r ≡ reached.WholeWith at size
      → HasVerdict head_only (received ++ piece) (Whole (record after { body = take size (drop at bytes) }))
  whole_with_after after r at size x e =
      let y = reached_is after r (reached.WholeWith at size) e x in
      subst (λ (b : List ℕ). HasVerdict head_only (received ++ piece) (Whole (record after { body = b ++ take size (drop at bytes) })))
      y.1.1 (verdict_after (Whole (with_more after (take size (drop at bytes)))) y.0)

  pub malformed_after : (after : Reply) (r : Reached) → Reaches reader.head_only (phase_of reader.due reader.reply) bytes after r
      → r ≡ reached.Malformed → HasVerdict head_only (received ++ piece) Malformed
  malformed_after after r x e = verdict_after Malformed (reached_is after r reached.Malformed e x)

  pub too_large_after : (after : Reply) (r : Reached) → Reaches reader.head_only (phase_of reader.due reader.reply) bytes after r
      → r ≡ reached.TooLarge → HasVerdict head_only (received ++ piece) TooLarge
  too_large_after after r x e = verdict_after TooLarge (reached_is after r reached.TooLarge e x)

  -- the reader that waits on
  pub waits_after : (after : Reply) (r : Reached) (d : Due) (at : ℕ) (next : ReplyReader) → Reaches reader.head_only (phase_of reader.due reader.reply) bytes after r
      → r ≡ reached.Waits d at → next.head_only ≡ reader.head_only → next.count ≡ reader.count + length piece → next.due ≡ d → next.reply ≡ after
      → next.rest.items ≡ drop at bytes → WaitsAfter head_only (received ++ piece) next
  waits_after after r d at next x e method count due_is reply_is rest_is =
      let y = reached_is after r (reached.Waits d at) e x in
      let counted = waits.counted in
      record {
        method = method ∙ waits.method;
        counted = omega (arith, length-append received piece);
        fits = subst (λ s. Fits s next.reply) (sym due_is) (subst (Fits d) (sym reply_is) y.1);
        waiting = subst (λ p. IsWaiting head_only (received ++ piece) p next.rest.items) (sym (ap (λ s. phase_of s next.reply) due_is ∙ ap (phase_of d) reply_is))
            (subst (λ b. IsWaiting head_only (received ++ piece) (phase_of d after) b) (sym rest_is) (waiting_after (phase_of d after) (drop at bytes) y.0));
      }

-- an outcome of the bytes up to the limit is one of all
pub outcome_of_all : (head_only : Bool) (received piece front : List ℕ) (n : ℕ) (outcome : Outcome) → front ≡ take n piece
    → IsOutcome head_only (received ++ front) false None outcome → IsOutcome head_only (received ++ piece) false None outcome
outcome_of_all head_only received piece front n outcome front_is x =
    let joined = append_assoc received front (drop n piece) ∙ ap (λ f. received ++ (f ++ drop n piece)) front_is ∙ ap (λ b. received ++ b) (take-append-drop n piece) in
    subst (λ b. IsOutcome head_only b false None outcome) joined
    (front_decides head_only (received ++ front) (drop n piece) false None outcome x)

-- more bytes than the limit, where those up to it wait, are too large
pub past_all : (head_only : Bool) (received piece front : List ℕ) (n : ℕ) (q : Phase) (rest : List ℕ) → front ≡ take n piece
    → length received + n ≡ 268435456 → n < length piece
    → IsWaiting head_only (received ++ front) q rest
    → Waits head_only (seen (received ++ piece)) × (268435456 < length (received ++ piece))
past_all head_only received piece front n q rest front_is size more x =
    let cut : take n piece ++ drop n piece ≡ piece = take-append-drop n piece in
    let joined = append_assoc received front (drop n piece) ∙ ap (λ f. received ++ (f ++ drop n piece)) front_is ∙ ap (λ b. received ++ b) cut in
    let taken = length-take-le n piece (omega arith) in
    let front_size = ap length front_is in
    let both = length-append received front in
    let whole = length-append received piece in
    let all_seen : seen (received ++ piece) ≡ received ++ front =
    ap seen (sym joined) ∙ take_at (received ++ front) (drop n piece) 268435456 (omega arith) in
    ((q, rest, subst (λ b. IsWaiting head_only b q rest) (sym all_seen) x), omega arith)
