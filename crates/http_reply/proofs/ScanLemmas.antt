-- A phase that waits has found no end, so the search goes on behind its bytes.
use Rattle.std.proofs.Common.{◌≡◌, ℕ, ◌+◌, ◌-◌, inl, inr, Bool, true, false, cond, List, ◌++◌, length, take, Option, None, Some, MatchBool, refl, sym, ap, subst, arith}
use Rattle.std.specs.Prelude.{option_map}
use Rattle.std.proofs.lemmas.Bool.{cases_lt}
use Rattle.httparse.specs.Grammar.{chunk_size}
use Rattle.aws_world.specs.declared.message.Reply.{Reply}
use Rattle.http_reply.specs.declared.kinds.Kind.{Kind}
use Rattle.http_reply.specs.declared.kinds.Kind.TheVariants.{Interim, NoBody, Chunked, Fixed, ToEnd, Malformed as Bad, TooLarge as Big}
use Rattle.http_reply.specs.declared.outcome.Outcome.TheVariants.{Whole, TooLarge}
use Rattle.http_reply.specs.declared.steps.Due.{Due}
use Rattle.http_reply.specs.declared.steps.Due.TheVariants as due
use Rattle.http_reply.specs.Cuts.{head_end, line_end}
use Rattle.http_reply.specs.Kinds.{kind_of}
use Rattle.http_reply.specs.Machine.{Phase, chunk, trailers, wait, move, decide, reply_of, after_head, JudgesHead, CutsHead, JudgesLine, CutsLine, trailer_step}
use Rattle.http_reply.specs.Reading.{IsScanned}
use Rattle.http_reply.proofs.CutLemmas.{head_end_from, line_end_from}

no_wait_after : (used size : ℕ) (reply : Reply) (kind : Kind) (P : Type 0) → wait ≡ after_head used size reply kind → P
no_wait_after used size reply Interim P e = absurd cc
no_wait_after used size reply NoBody P e = absurd cc
no_wait_after used size reply Chunked P e = absurd cc
no_wait_after used size reply (Fixed n) P e = absurd cc
no_wait_after used size reply ToEnd P e = absurd cc
no_wait_after used size reply Bad P e = absurd cc
no_wait_after used size reply Big P e = absurd cc

no_wait_judged : (head_only : Bool) (used : ℕ) (head : List ℕ) (P : Type 0) → JudgesHead head_only used head wait → P
no_wait_judged head_only used head P (inl a) = no_wait_after used (length head) (reply_of a.0) (kind_of head_only (reply_of a.0).status (reply_of a.0).headers) P a.2
no_wait_judged head_only used head P (inr a) = let apart = a.1 in absurd cc

by_no_wait : (c : Bool) (J P : Type 0) → (J → P) → MatchBool c J (wait ≡ decide TooLarge) → P
by_no_wait true J P f x = f x
by_no_wait false J P f x = absurd cc

none_where_head_waits : (head_only : Bool) (used : ℕ) (bytes : List ℕ) (o : Option ℕ) → CutsHead head_only used bytes o wait → o ≡ None
none_where_head_waits head_only used bytes None x = refl
none_where_head_waits head_only used bytes (Some n) x =
    by_no_wait _ (JudgesHead head_only used (take n bytes) wait) _ (no_wait_judged head_only used (take n bytes) _) x

no_wait_read : (c d : Bool) (size : ℕ) (p q : Phase) (P : Type 0) → wait ≡ cond c (move p size) (cond d (move q size) (decide TooLarge)) → P
no_wait_read true d size p q P e = absurd cc
no_wait_read false true size p q P e = absurd cc
no_wait_read false false size p q P e = absurd cc

no_wait_line : (reply : Reply) (used : ℕ) (line : List ℕ) (P : Type 0) → JudgesLine reply used line wait → P
no_wait_line reply used line P (inl a) =
    no_wait_read _ _ (length line) (trailers reply used) (chunk reply used (chunk_size a.0)) P a.2
no_wait_line reply used line P (inr a) = let apart = a.1 in absurd cc

none_where_line_waits : (reply : Reply) (used : ℕ) (bytes : List ℕ) (o : Option ℕ) → CutsLine reply used bytes o wait → o ≡ None
none_where_line_waits reply used bytes None x = refl
none_where_line_waits reply used bytes (Some n) x =
    by_no_wait _ (JudgesLine reply used (take n bytes) wait) _ (no_wait_line reply used (take n bytes) _) x

no_wait_skipped : (c d : Bool) (reply : Reply) (p : Phase) (n : ℕ) (P : Type 0) → wait ≡ cond c (cond d (decide (Whole reply)) (move p n)) (decide TooLarge) → P
no_wait_skipped true true reply p n P e = absurd cc
no_wait_skipped true false reply p n P e = absurd cc
no_wait_skipped false d reply p n P e = absurd cc

none_where_trailer_waits : (reply : Reply) (used : ℕ) (bytes : List ℕ) (o : Option ℕ) → wait ≡ trailer_step reply used bytes o → o ≡ None
none_where_trailer_waits reply used bytes None e = refl
none_where_trailer_waits reply used bytes (Some n) e = no_wait_skipped _ _ reply (trailers reply (used + n)) n _ e

unshifted : (a : Option ℕ) → a ≡ option_map (λ n. n + 0) a
unshifted None = refl
unshifted (Some n) = ap Some (omega arith)

-- from the start nothing is left out
pub scanned_none : (d : Due) (bytes : List ℕ) → IsScanned d bytes 0
scanned_none (due.Heads used) bytes = unshifted (head_end bytes)
scanned_none (due.Fixed size) bytes = tt
scanned_none (due.Lines used) bytes = unshifted (line_end bytes)
scanned_none (due.Chunk used size) bytes = tt
scanned_none (due.Trailers used) bytes = unshifted (line_end bytes)
scanned_none due.ToEnd bytes = tt

pub scanned_head : (head_only : Bool) (used : ℕ) (bytes more : List ℕ) → CutsHead head_only used bytes (head_end bytes) wait
    → IsScanned (due.Heads used) (bytes ++ more) (length bytes - 2)
scanned_head head_only used bytes more x =
    let none = none_where_head_waits head_only used bytes (head_end bytes) x in
    elim (cases_lt (length bytes) 2) [
      | inl short ↦
          let start : length bytes - 2 ≡ 0 = omega arith in
          subst (λ k. IsScanned (due.Heads used) (bytes ++ more) k) (sym start) (unshifted (head_end (bytes ++ more)))
      | inr long ↦ head_end_from (length bytes - 2) bytes more (omega arith) none
    ]

pub scanned_line : (reply : Reply) (used : ℕ) (bytes more : List ℕ) → CutsLine reply used bytes (line_end bytes) wait
    → IsScanned (due.Lines used) (bytes ++ more) (length bytes)
scanned_line reply used bytes more x =
    line_end_from bytes more (none_where_line_waits reply used bytes (line_end bytes) x)

pub scanned_trailer : (reply : Reply) (used : ℕ) (bytes more : List ℕ) → wait ≡ trailer_step reply used bytes (line_end bytes)
    → IsScanned (due.Trailers used) (bytes ++ more) (length bytes)
scanned_trailer reply used bytes more x =
    line_end_from bytes more (none_where_trailer_waits reply used bytes (line_end bytes) x)
