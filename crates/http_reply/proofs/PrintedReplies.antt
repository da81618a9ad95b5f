-- A reply that the grammar prints is answered as whole.
use Rattle.std.proofs.Common.{◌≡◌, ℕ, ◌+◌, ◌<◌, ◌≤◌, inl, inr, Bool, true, false, cond, eqb, leb, ◌&&◌, List, [], ◌∷◌, ◌++◌, length, take, drop, Option, None, Some, MatchBool, refl, sym, ap, ◌∙◌, subst, arith, zero-add, append_assoc, length-append, append-nil}
use Rattle.std.specs.Prelude.{All, is_some}
use Rattle.std.specs.List.{flat_map}
use Rattle.std.specs.Char.{is_ascii_hexdigit}
use Rattle.std.proofs.lemmas.Bool.{ne_eqb}
use Rattle.std.proofs.lemmas.Bool.Decides.{nat_tests}
use Rattle.std.proofs.lemmas.List.{take_at, drop_at, drop-drop}
use Rattle.std.proofs.lemmas.List.Elements.{All-head, All-tail}
use Rattle.httparse.specs.Ascii.{crlf_bytes}
use Rattle.httparse.specs.Grammar.{is_ows, is_extension_byte, LineEnd, crlf, print_end, Field, IsField, print_section, ResponseHead, print_response, ChunkLine, IsChunkLine, print_extension, IsExtension, print_chunk_line, chunk_size}
use Rattle.aws_world.specs.declared.message.Reply.{Reply}
use Rattle.http_reply.specs.declared.kinds.Kind.TheVariants.{Interim}
use Rattle.http_reply.specs.declared.outcome.Outcome.TheVariants.{Whole, TooLarge}
use Rattle.http_reply.specs.Cuts.{empty_line, line_end}
use Rattle.http_reply.specs.Machine.{Phase, heads, fixed, lines, chunk, trailers, to_end, Step, wait, move, decide, with_more, reply_of, after_head, JudgesHead, CutsHead, after_line, JudgesLine, CutsLine, after_chunk, trailer_step, Does, Leads, Decides}
use Rattle.http_reply.specs.Printed.{Chunk, print_chunk, Body, none, sized, chunked, print_body, body_bytes, trailer_size, print_reply, IsPlainHead, kind_after, IsChunk, IsBodyOf, PrintedIsWhole, EndedIsWhole}
use Rattle.http_reply.proofs.MoveLemmas.{leads_join, leads_one, leads_none, decides_after}
use Rattle.http_reply.proofs.OutcomeLemmas.{seen_all, front_decides}
use Rattle.http_reply.proofs.PrintedLines.{HasNoFeed, HasNoFeed-pass, HasNoFeed-append, line_end-printed, empty_line-end, field_text, section-cons, length-section-cons, head_end-printed, feeds, feeds-head, HasNoFeed-field, empty_line-field}

le_test : (m n : ℕ) → m ≤ n → leb m n ≡ true
le_test m n h = grind (arith, nat_tests)

when_both : (c d : Bool) (P Q : Type 0) → c ≡ true → d ≡ true → P → MatchBool (c && d) P Q
when_both true true P Q e f p = p
when_both true false P Q e f p = cc
when_both false d P Q e f p = cc

when_true : (c : Bool) (P Q : Type 0) → c ≡ true → P → MatchBool c P Q
when_true true P Q e p = p
when_true false P Q e p = cc

-- ---- heads

pub head-does : (head_only : Bool) (used : ℕ) (h : ResponseHead) (rest : List ℕ) → IsPlainHead h → used + length (print_response h) ≤ 65536
    → Does head_only (heads used) (print_response h ++ rest) (after_head used (length (print_response h)) (reply_of h) (kind_after head_only h))
head-does head_only used h rest x size =
    let n = length (print_response h) in
    let step = after_head used n (reply_of h) (kind_after head_only h) in
    let few = x.few in
    let count = feeds-head h x.valid in
    let judged : JudgesHead head_only used (print_response h) step =
    inl (h, ((x.valid, sym (append-nil (print_response h))), omega arith), refl) in
    let cut : MatchBool (leb (used + n) 65536 && leb (feeds (print_response h)) 102) (JudgesHead head_only used (print_response h) step) (step ≡ decide TooLarge) =
    when_both _ _ _ _ (le_test _ _ size) (le_test (feeds (print_response h)) 102 (omega arith)) judged in
    subst (λ o. CutsHead head_only used (print_response h ++ rest) o step) (sym (head_end-printed h rest x))
    (subst (λ b. MatchBool (leb (used + n) 65536 && leb (feeds b) 102) (JudgesHead head_only used b step) (step ≡ decide TooLarge))
    (sym (take_at (print_response h) rest n refl)) cut)

-- a head that leads on
head-leads : (head_only : Bool) (used : ℕ) (h : ResponseHead) (rest : List ℕ) (q : Phase) → IsPlainHead h → used + length (print_response h) ≤ 65536
    → after_head used (length (print_response h)) (reply_of h) (kind_after head_only h) ≡ move q (length (print_response h))
    → Leads head_only (heads used) (print_response h ++ rest) q rest
head-leads head_only used h rest q x size e =
    let n = length (print_response h) in
    subst (λ b. Leads head_only (heads used) (print_response h ++ rest) q b) (drop_at (print_response h) rest n refl)
    (leads_one head_only (heads used) (print_response h ++ rest) q n
    (subst (λ s. Does head_only (heads used) (print_response h ++ rest) s) e (head-does head_only used h rest x size)))

interims-lead : (head_only : Bool) (hs : List ResponseHead) (used : ℕ) (rest : List ℕ) → All IsPlainHead hs → All (λ h. kind_after head_only h ≡ Interim) hs
    → used + length (flat_map print_response hs) ≤ 65536
    → Leads head_only (heads used) (flat_map print_response hs ++ rest) (heads (used + length (flat_map print_response hs))) rest
interims-lead head_only [] used rest plain interim size =
    subst (λ n. Leads head_only (heads used) rest (heads n) rest) (zero_more used) (leads_none head_only (heads used) rest)
  where
    zero_more : (n : ℕ) → n ≡ n + 0
    zero_more n = omega arith
interims-lead head_only (h ∷ hs) used rest plain interim size =
    let n = length (print_response h) in
    let more = flat_map print_response hs in
    let both = length-append (print_response h) more in
    let kind = All-head (λ i. kind_after head_only i ≡ Interim) h hs interim in
    let first = head-leads head_only used h (more ++ rest) (heads (used + n)) (All-head IsPlainHead h hs plain) (omega arith)
    (ap (after_head used n (reply_of h)) kind) in
    let others = interims-lead head_only hs (used + n) rest (All-tail IsPlainHead h hs plain) (All-tail (λ i. kind_after head_only i ≡ Interim) h hs interim) (omega arith) in
    let total : used + n + length more ≡ used + length (print_response h ++ more) = omega arith in
    subst (λ b. Leads head_only (heads used) b (heads (used + length (print_response h ++ more))) rest) (sym (append_assoc (print_response h) more rest))
    (subst (λ k. Leads head_only (heads used) (print_response h ++ (more ++ rest)) (heads k) rest) total
    (leads_join head_only (heads used) (print_response h ++ (more ++ rest)) (heads (used + n)) (more ++ rest) (heads (used + n + length more)) rest first others))

-- ---- chunks

-- a line before a chunk, without its end
abbrev line_text : ChunkLine → List ℕ
line_text l = l.digits ++ l.pad ++ print_extension l.extension

chunk_line-is : (l : ChunkLine) → print_chunk_line l ≡ line_text l ++ print_end crlf
unfolding print_chunk_line
chunk_line-is l = refl

HasNoFeed-extension : (e : Option (List ℕ)) → IsExtension e → HasNoFeed (print_extension e)
HasNoFeed-extension None x = tt
HasNoFeed-extension (Some text) x = (refl, HasNoFeed-pass is_extension_byte refl text x)

HasNoFeed-line : (l : ChunkLine) → IsChunkLine l → HasNoFeed (line_text l)
HasNoFeed-line l x =
    HasNoFeed-append (l.digits ++ l.pad) (print_extension l.extension)
    (HasNoFeed-append l.digits l.pad (HasNoFeed-pass is_ascii_hexdigit refl l.digits x.digits.2) (HasNoFeed-pass is_ows refl l.pad x.pad))
    (HasNoFeed-extension l.extension x.extension)

line_end-chunk : (l : ChunkLine) (rest : List ℕ) → IsChunkLine l → line_end (print_chunk_line l ++ rest) ≡ Some (length (print_chunk_line l))
line_end-chunk l rest x =
    ap (λ s. line_end (s ++ rest)) (chunk_line-is l) ∙ ap line_end (append_assoc (line_text l) (print_end crlf) rest)
    ∙ line_end-printed (line_text l) (HasNoFeed-line l x) crlf rest
    ∙ ap Some (sym (ap length (chunk_line-is l) ∙ length-append (line_text l) (print_end crlf)))

line-does : (head_only : Bool) (reply : Reply) (used : ℕ) (l : ChunkLine) (rest : List ℕ) → IsChunkLine l → length (print_chunk_line l) ≤ 4096
    → Does head_only (lines reply used) (print_chunk_line l ++ rest) (after_line reply used (length (print_chunk_line l)) (chunk_size l))
line-does head_only reply used l rest x short =
    let n = length (print_chunk_line l) in
    let step = after_line reply used n (chunk_size l) in
    let judged : JudgesLine reply used (print_chunk_line l) step = inl (l, (x, sym (append-nil (print_chunk_line l))), refl) in
    subst (λ o. CutsLine reply used (print_chunk_line l ++ rest) o step) (sym (line_end-chunk l rest x))
    (subst (λ b. MatchBool (leb n 4096) (JudgesLine reply used b step) (step ≡ decide TooLarge)) (sym (take_at (print_chunk_line l) rest n refl))
    (when_true _ _ _ (le_test _ _ short) judged))

-- a line that leads on
line-leads : (head_only : Bool) (reply : Reply) (used : ℕ) (l : ChunkLine) (rest : List ℕ) (q : Phase) → IsChunkLine l → length (print_chunk_line l) ≤ 4096
    → after_line reply used (length (print_chunk_line l)) (chunk_size l) ≡ move q (length (print_chunk_line l))
    → Leads head_only (lines reply used) (print_chunk_line l ++ rest) q rest
line-leads head_only reply used l rest q x short e =
    let n = length (print_chunk_line l) in
    subst (λ b. Leads head_only (lines reply used) (print_chunk_line l ++ rest) q b) (drop_at (print_chunk_line l) rest n refl)
    (leads_one head_only (lines reply used) (print_chunk_line l ++ rest) q n
    (subst (λ s. Does head_only (lines reply used) (print_chunk_line l ++ rest) s) e (line-does head_only reply used l rest x short)))

to_chunk : (c d : Bool) (p q r : Step) → c ≡ false → d ≡ true → cond c p (cond d q r) ≡ q
to_chunk true d p q r e f = cc
to_chunk false true p q r e f = refl
to_chunk false false p q r e f = cc

after_some : (reply : Reply) (used size n m : ℕ) → m ≡ n → 0 < n → length reply.body + n ≤ 67108864 → after_line reply used size m ≡ move (chunk reply used n) size
after_some reply used size n m e some room =
    ap (after_line reply used size) e
    ∙ to_chunk (eqb n 0) (leb (length reply.body + n) 67108864) (move (trailers reply used) size) (move (chunk reply used n) size) (decide TooLarge)
    (ne_eqb n 0 (λ z. absurd (omega arith))) (le_test _ _ room)

data-leads : (head_only : Bool) (reply : Reply) (used : ℕ) (bytes rest : List ℕ)
    → Leads head_only (chunk reply used (length bytes)) (bytes ++ (crlf_bytes ++ rest)) (lines (with_more reply bytes) used) rest
data-leads head_only reply used bytes rest =
    let n = length bytes in
    let all = bytes ++ (crlf_bytes ++ rest) in
    let taken = take_at bytes (crlf_bytes ++ rest) n refl in
    let left = drop_at bytes (crlf_bytes ++ rest) n refl in
    let gone : drop (n + 2) all ≡ rest = sym (drop-drop 2 n all) ∙ ap (drop 2) left in
    let does : Does head_only (chunk reply used n) all (move (lines (with_more reply bytes) used) (n + 2)) =
    ap (λ b. move (lines (with_more reply b) used) (n + 2)) (sym taken)
    ∙ ap (after_chunk (move (lines (with_more reply (take n all)) used) (n + 2))) (sym left) in
    subst (λ b. Leads head_only (chunk reply used n) all (lines (with_more reply bytes) used) b) gone
    (leads_one head_only (chunk reply used n) all (lines (with_more reply bytes) used) (n + 2) does)

chunk-leads : (head_only : Bool) (reply : Reply) (used : ℕ) (c : Chunk) (rest : List ℕ) → IsChunk c → length reply.body + length c.bytes ≤ 67108864
    → Leads head_only (lines reply used) (print_chunk c ++ rest) (lines (with_more reply c.bytes) used) rest
chunk-leads head_only reply used c rest x room =
    let n = length c.bytes in
    let content = c.bytes ++ (crlf_bytes ++ rest) in
    let first = line-leads head_only reply used c.line content (chunk reply used n) x.valid x.short
    (after_some reply used (length (print_chunk_line c.line)) n (chunk_size c.line) x.size x.some room) in
    let joined : print_chunk c ++ rest ≡ print_chunk_line c.line ++ content =
    append_assoc (print_chunk_line c.line) (c.bytes ++ crlf_bytes) rest ∙ ap (λ b. print_chunk_line c.line ++ b) (append_assoc c.bytes crlf_bytes rest) in
    subst (λ b. Leads head_only (lines reply used) b (lines (with_more reply c.bytes) used) rest) (sym joined)
    (leads_join head_only (lines reply used) (print_chunk_line c.line ++ content) (chunk reply used n) content (lines (with_more reply c.bytes) used) rest first
    (data-leads head_only reply used c.bytes rest))

abbrev bytes_of : List Chunk → List ℕ
bytes_of cs = flat_map (λ c. c.bytes) cs

more_and_more : (reply : Reply) (a b : List ℕ) → with_more (with_more reply a) b ≡ with_more reply (a ++ b)
more_and_more reply a b = λ i. record reply { body = append_assoc reply.body a b i }

no_more : (reply : Reply) → reply ≡ with_more reply []
no_more reply = let e = sym (append-nil reply.body) in λ i. record reply { body = e i }

chunks-lead : (head_only : Bool) (cs : List Chunk) (reply : Reply) (used : ℕ) (rest : List ℕ) → All IsChunk cs
    → length reply.body + length (bytes_of cs) ≤ 67108864
    → Leads head_only (lines reply used) (flat_map print_chunk cs ++ rest) (lines (with_more reply (bytes_of cs)) used) rest
chunks-lead head_only [] reply used rest all room =
    subst (λ r. Leads head_only (lines reply used) rest (lines r used) rest) (no_more reply) (leads_none head_only (lines reply used) rest)
chunks-lead head_only (c ∷ cs) reply used rest all room =
    let more = flat_map print_chunk cs ++ rest in
    let both = length-append c.bytes (bytes_of cs) in
    let grown = length-append reply.body c.bytes in
    let first = chunk-leads head_only reply used c more (All-head IsChunk c cs all) (omega arith) in
    let others = chunks-lead head_only cs (with_more reply c.bytes) used rest (All-tail IsChunk c cs all) (omega arith) in
    subst (λ b. Leads head_only (lines reply used) b (lines (with_more reply (c.bytes ++ bytes_of cs)) used) rest)
    (sym (append_assoc (print_chunk c) (flat_map print_chunk cs) rest))
    (subst (λ r. Leads head_only (lines reply used) (print_chunk c ++ more) (lines r used) rest) (more_and_more reply c.bytes (bytes_of cs))
    (leads_join head_only (lines reply used) (print_chunk c ++ more) (lines (with_more reply c.bytes) used) more
    (lines (with_more (with_more reply c.bytes) (bytes_of cs)) used) rest first others))

-- ---- trailers

trailer-skips : (c d : Bool) (p q r : Step) → c ≡ true → d ≡ false → cond c (cond d p q) r ≡ q
trailer-skips true true p q r e f = cc
trailer-skips true false p q r e f = refl
trailer-skips false d p q r e f = cc

trailer-ends : (c d : Bool) (p q r : Step) → c ≡ true → d ≡ true → cond c (cond d p q) r ≡ p
trailer-ends true true p q r e f = refl
trailer-ends true false p q r e f = cc
trailer-ends false d p q r e f = cc

-- the step of a trailer line, or of the empty one
trailer-step-is : (reply : Reply) (used : ℕ) (line rest : List ℕ) (s : Step) → line_end (line ++ rest) ≡ Some (length line)
    → cond (leb (used + length line) 65536) (cond (is_some (empty_line line)) (decide (Whole reply)) (move (trailers reply (used + length line)) (length line))) (decide TooLarge) ≡ s
    → s ≡ trailer_step reply used (line ++ rest) (line_end (line ++ rest))
trailer-step-is reply used line rest s ends e =
    sym e
    ∙ ap (λ b. cond (leb (used + length line) 65536) (cond (is_some (empty_line b)) (decide (Whole reply)) (move (trailers reply (used + length line)) (length line))) (decide TooLarge)) (sym (take_at line rest (length line) refl))
    ∙ ap (trailer_step reply used (line ++ rest)) (sym ends)

field-line-ends : (f : Field) (rest : List ℕ) → IsField f
    → line_end ((field_text f ++ print_end f.end) ++ rest) ≡ Some (length (field_text f ++ print_end f.end))
field-line-ends f rest x =
    ap line_end (append_assoc (field_text f) (print_end f.end) rest) ∙ line_end-printed (field_text f) (HasNoFeed-field f x) f.end rest
    ∙ ap Some (sym (length-append (field_text f) (print_end f.end)))

section-ends : (head_only : Bool) (fields : List Field) (last : LineEnd) (reply : Reply) (used : ℕ) (rest : List ℕ) → All IsField fields
    → used + length (print_section fields last) ≤ 65536
    → Decides head_only (trailers reply used) (print_section fields last ++ rest) (Whole reply)
section-ends head_only [] last reply used rest all size =
    let line = print_end last in
    let empty = ap is_some (ap empty_line (sym (append-nil line)) ∙ empty_line-end last []) in
    let ends = line_end-printed [] tt last rest ∙ ap Some (zero-add (length line)) in
    let step = trailer-ends (leb (used + length line) 65536) (is_some (empty_line line)) (decide (Whole reply)) (move (trailers reply (used + length line)) (length line)) (decide TooLarge) (le_test _ _ size) empty in
    (trailers reply used, line ++ rest, leads_none head_only (trailers reply used) (line ++ rest), trailer-step-is reply used line rest (decide (Whole reply)) ends step)
section-ends head_only (f ∷ fields) last reply used rest all size =
    let field = All-head IsField f fields all in
    let line = field_text f ++ print_end f.end in
    let more = print_section fields last ++ rest in
    let n = length line in
    let sizes = length-section-cons f fields last in
    let line_size = length-append (field_text f) (print_end f.end) in
    let follows = ap is_some (empty_line-field f (print_end f.end) field) in
    let step = trailer-skips (leb (used + n) 65536) (is_some (empty_line line)) (decide (Whole reply)) (move (trailers reply (used + n)) n) (decide TooLarge) (le_test _ _ (omega arith)) follows in
    let does : Does head_only (trailers reply used) (line ++ more) (move (trailers reply (used + n)) n) =
    trailer-step-is reply used line more (move (trailers reply (used + n)) n) (field-line-ends f more field) step in
    let first = subst (λ b. Leads head_only (trailers reply used) (line ++ more) (trailers reply (used + n)) b) (drop_at line more n refl)
    (leads_one head_only (trailers reply used) (line ++ more) (trailers reply (used + n)) n does) in
    let others = section-ends head_only fields last reply (used + n) rest (All-tail IsField f fields all) (omega arith) in
    let joined = section-cons f fields last rest ∙ sym (append_assoc (field_text f) (print_end f.end) more) in
    subst (λ b. Decides head_only (trailers reply used) b (Whole reply)) (sym joined)
    (decides_after head_only (trailers reply used) (line ++ more) (trailers reply (used + n)) more (Whole reply) first others)

-- ---- bodies

to_trailers : (reply : Reply) (used size m : ℕ) → m ≡ 0 → after_line reply used size m ≡ move (trailers reply used) size
to_trailers reply used size m e = ap (after_line reply used size) e

body-ends : (head_only : Bool) (h : ResponseHead) (body : Body) (used : ℕ) → IsPlainHead h → IsBodyOf (kind_after head_only h) body
    → used + length (print_response h) + trailer_size body ≤ 65536 → length (body_bytes body) ≤ 67108864
    → Decides head_only (heads used) (print_response h ++ print_body body) (Whole (with_more (reply_of h) (body_bytes body)))
body-ends head_only h none used x kind size room =
    let n = length (print_response h) in
    let does = subst (λ s. Does head_only (heads used) (print_response h ++ []) s) (ap (after_head used n (reply_of h)) kind)
    (head-does head_only used h [] x (omega arith)) in
    (heads used, print_response h ++ [], leads_none head_only (heads used) (print_response h ++ []), does)
body-ends head_only h (sized bytes) used x kind size room =
    let n = length (print_response h) in
    let first = head-leads head_only used h bytes (fixed (reply_of h) (length bytes)) x (omega arith) (ap (after_head used n (reply_of h)) kind) in
    let taken = subst (λ b. take (length bytes) b ≡ bytes) (append-nil bytes) (take_at bytes [] (length bytes) refl) in
    let does : Does head_only (fixed (reply_of h) (length bytes)) bytes (decide (Whole (with_more (reply_of h) bytes))) =
    ap (λ b. decide (Whole (with_more (reply_of h) b))) (sym taken)
    ∙ ap (λ c. cond c (decide (Whole (with_more (reply_of h) (take (length bytes) bytes)))) wait) (sym (le_test (length bytes) (length bytes) (omega arith))) in
    (fixed (reply_of h) (length bytes), bytes, first, does)
body-ends head_only h (chunked chunks last section end) used x kind size room =
    let n = length (print_response h) in
    let all = used + n in
    let tail = print_chunk_line last ++ print_section section end in
    let reply = with_more (reply_of h) (bytes_of chunks) in
    let text = flat_map print_chunk chunks ++ tail in
    let first = head-leads head_only used h text (lines (reply_of h) all) x (omega arith) (ap (after_head used n (reply_of h)) kind.0) in
    let middle = chunks-lead head_only chunks (reply_of h) all tail kind.1 (omega arith) in
    let line = line-leads head_only reply all last (print_section section end) (trailers reply all) kind.2 kind.3
    (to_trailers reply all (length (print_chunk_line last)) (chunk_size last) kind.4) in
    let trailing = subst (λ b. Decides head_only (trailers reply all) b (Whole reply)) (append-nil (print_section section end))
    (section-ends head_only section end reply all [] kind.5 size) in
    decides_after head_only (heads used) (print_response h ++ text) (lines (reply_of h) all) text (Whole reply) first
    (decides_after head_only (lines (reply_of h) all) text (lines reply all) tail (Whole reply) middle
    (decides_after head_only (lines reply all) tail (trailers reply all) (print_section section end) (Whole reply) line trailing))

pub printed_is_whole : PrintedIsWhole
printed_is_whole head_only r more ended fault x =
    let front = flat_map print_response r.interims in
    let last = print_response r.head ++ print_body r.body in
    let head_size = x.head_size in
    let outcome = Whole (with_more (reply_of r.head) (body_bytes r.body)) in
    let heads_lead = interims-lead head_only r.interims 0 last x.interims x.are_interim (omega arith) in
    let ends = body-ends head_only r.head r.body (0 + length front) x.head x.body (omega arith) x.body_size in
    let decides = decides_after head_only (heads 0) (print_reply r) (heads (0 + length front)) last outcome heads_lead ends in
    front_decides head_only (print_reply r) more ended fault outcome
    (inl (subst (λ b. Decides head_only (heads 0) b outcome) (sym (seen_all (print_reply r) x.size)) decides))

pub ended_is_whole : EndedIsWhole
ended_is_whole head_only hs h bytes plain interim x kind size room =
    let front = flat_map print_response hs in
    let last = print_response h ++ bytes in
    let n = length (print_response h) in
    let start = reply_of h in
    let heads_lead = interims-lead head_only hs 0 last plain interim (omega arith) in
    let head = head-leads head_only (0 + length front) h bytes (to_end start) x (omega arith) (ap (after_head (0 + length front) n start) kind) in
    let leads = leads_join head_only (heads 0) (front ++ last) (heads (0 + length front)) last (to_end start) bytes heads_lead head in
    let waits : Does head_only (to_end start) bytes wait = ap (λ c. cond c wait (decide TooLarge)) (sym (le_test (length bytes) 67108864 room)) in
    let whole = length-append front last in
    let part = length-append (print_response h) bytes in
    inr (start, bytes, ((leads, waits), omega arith), (refl, refl), refl)
