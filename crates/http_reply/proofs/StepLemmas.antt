-- One phase makes one step of the bytes, keeps it as more bytes come, and takes some of them.
use Rattle.std.proofs.Common.{◌≡◌, ℕ, ◌+◌, ◌<◌, ◌≤◌, inl, inr, Bool, true, false, cond, eqb, leb, ◌&&◌, List, [], ◌∷◌, ◌++◌, length, take, drop, Option, None, Some, MatchBool, refl, sym, ap, ◌∙◌, subst, arith, length-append, length-drop}
use Rattle.std.specs.Prelude.{count_by, is_some}
use Rattle.std.proofs.lemmas.Bool.{false≢true}
use Rattle.std.proofs.lemmas.Bool.Decides.{nat_tests}
use Rattle.std.proofs.lemmas.List.{take-append-le, drop-append-le, length-take-le}
use Rattle.httparse.specs.Grammar.{chunk_size}
use Rattle.httparse.proofs.GrammarLemmas.{response_unique}
use Rattle.httparse.proofs.ChunkLemmas.{chunk_line_unique}
use Rattle.aws_world.specs.declared.message.Reply.{Reply}
use Rattle.http_reply.specs.declared.kinds.Kind.{Kind}
use Rattle.http_reply.specs.declared.kinds.Kind.TheVariants.{Interim, NoBody, Chunked, Fixed, ToEnd, Malformed as Bad, TooLarge as Big}
use Rattle.http_reply.specs.declared.outcome.Outcome.{Outcome}
use Rattle.http_reply.specs.declared.outcome.Outcome.TheVariants.{Whole, Malformed, TooLarge}
use Rattle.http_reply.specs.Cuts.{empty_line, head_end, line_end}
use Rattle.http_reply.specs.Kinds.{kind_of}
use Rattle.http_reply.specs.Machine.{Phase, heads, fixed, lines, chunk, trailers, to_end, Step, wait, move, decide, with_more, reply_of, after_head, JudgesHead, CutsHead, after_line, JudgesLine, CutsLine, after_chunk, trailer_step, Does}
use Rattle.http_reply.proofs.CutLemmas.{Later, IsEndWithin, line_end_within, line_end_later, head_end_within, head_end_later}

-- the step isn't to wait
abbrev pub IsSettled : Step → Type 0
IsSettled wait = ⊥
IsSettled (move q k) = Unit {0}
IsSettled (decide outcome) = Unit {0}

settled : (s : Step) → s ≡ wait → IsSettled s → ⊥
settled s e h = subst IsSettled e h

-- ---- one step

by_test : (c : Bool) (P Q : Step → Type 0) (s t : Step)
    → ((a b : Step) → P a → P b → a ≡ b) → ((a b : Step) → Q a → Q b → a ≡ b)
    → MatchBool c (P s) (Q s) → MatchBool c (P t) (Q t) → s ≡ t
by_test true P Q s t p q x y = p s t x y
by_test false P Q s t p q x y = q s t x y

same_judgement : (head_only : Bool) (used : ℕ) (head : List ℕ) (s t : Step)
    → JudgesHead head_only used head s → JudgesHead head_only used head t → s ≡ t
same_judgement head_only used head s t (inl a) (inl b) =
    let same = (response_unique head a.0 b.0 [] [] a.1.0 b.1.0).0 in
    a.2 ∙ ap (λ h. after_head used (length head) (reply_of h) (kind_of head_only (reply_of h).status (reply_of h).headers)) same ∙ sym b.2
same_judgement head_only used head s t (inl a) (inr b) = absurd (b.0 a.0 a.1)
same_judgement head_only used head s t (inr a) (inl b) = absurd (a.0 b.0 b.1)
same_judgement head_only used head s t (inr a) (inr b) = a.1 ∙ sym b.1

one_cut : (head_only : Bool) (used : ℕ) (bytes : List ℕ) (o : Option ℕ) (s t : Step)
    → CutsHead head_only used bytes o s → CutsHead head_only used bytes o t → s ≡ t
one_cut head_only used bytes None s t x y = x ∙ sym y
one_cut head_only used bytes (Some n) s t x y =
    by_test _ (JudgesHead head_only used (take n bytes)) (λ a. a ≡ decide TooLarge) s t
    (same_judgement head_only used (take n bytes)) (λ a b x y. x ∙ sym y) x y

same_line : (reply : Reply) (used : ℕ) (line : List ℕ) (s t : Step)
    → JudgesLine reply used line s → JudgesLine reply used line t → s ≡ t
same_line reply used line s t (inl a) (inl b) =
    let same = (chunk_line_unique line a.0 b.0 [] [] a.1 b.1).0 in
    a.2 ∙ ap (λ l. after_line reply used (length line) (chunk_size l)) same ∙ sym b.2
same_line reply used line s t (inl a) (inr b) = absurd (b.0 a.0 a.1)
same_line reply used line s t (inr a) (inl b) = absurd (a.0 b.0 b.1)
same_line reply used line s t (inr a) (inr b) = a.1 ∙ sym b.1

one_line : (reply : Reply) (used : ℕ) (bytes : List ℕ) (o : Option ℕ) (s t : Step)
    → CutsLine reply used bytes o s → CutsLine reply used bytes o t → s ≡ t
one_line reply used bytes None s t x y = x ∙ sym y
one_line reply used bytes (Some n) s t x y =
    by_test _ (JudgesLine reply used (take n bytes)) (λ a. a ≡ decide TooLarge) s t
    (same_line reply used (take n bytes)) (λ a b x y. x ∙ sym y) x y

pub one_step : (head_only : Bool) (p : Phase) (bytes : List ℕ) (s t : Step)
    → Does head_only p bytes s → Does head_only p bytes t → s ≡ t
one_step head_only (heads used) bytes s t x y = one_cut head_only used bytes (head_end bytes) s t x y
one_step head_only (fixed reply size) bytes s t x y = x ∙ sym y
one_step head_only (lines reply used) bytes s t x y = one_line reply used bytes (line_end bytes) s t x y
one_step head_only (chunk reply used size) bytes s t x y = x ∙ sym y
one_step head_only (trailers reply used) bytes s t x y = x ∙ sym y
one_step head_only (to_end reply) bytes s t x y = x ∙ sym y

-- ---- a settled step stays

-- a test that waits up to a limit, settled, is too large for more bytes too
past_limit : (c d : Bool) (s : Step) → (d ≡ true → c ≡ true) → s ≡ cond c wait (decide TooLarge) → IsSettled s
    → (s ≡ decide TooLarge) × (d ≡ false)
past_limit true d s h e go = absurd (settled s e go)
past_limit false false s h e go = (e, refl)
past_limit false true s h e go = absurd (false≢true (h refl))

-- a limit that holds for more bytes held for fewer
held : (m n limit : ℕ) → m ≤ n → leb n limit ≡ true → leb m limit ≡ true
held m n limit le h = grind (arith, nat_tests)

and_false : (c d : Bool) → c ≡ false → c && d ≡ false
and_false false d e = refl
and_false true d e = cc

otherwise : (c : Bool) (P Q : Type 0) → c ≡ false → Q → MatchBool c P Q
otherwise false P Q e q = q
otherwise true P Q e q = cc

stays_head : (head_only : Bool) (used : ℕ) (bytes more : List ℕ) (o o' : Option ℕ) (s : Step)
    → Later (length bytes) o o' → CutsHead head_only used bytes o s → IsSettled s
    → CutsHead head_only used (bytes ++ more) o' s
stays_head head_only used bytes more None None s later x go =
    let longer = length-append bytes more in
    let past = past_limit _ (leb (used + length (bytes ++ more)) 65536) s (held _ _ 65536 (omega arith)) x go in
    past.0 ∙ ap (λ c. cond c wait (decide TooLarge)) (sym past.1)
stays_head head_only used bytes more None (Some m) s later x go =
    let past = past_limit _ (leb (used + m) 65536) s (held _ _ 65536 (omega arith)) x go in
    otherwise _ _ _ (and_false _ _ past.1) past.0
stays_head head_only used bytes more (Some n) None s later x go = absurd later
stays_head head_only used bytes more (Some n) (Some m) s later x go =
    subst (λ k. CutsHead head_only used (bytes ++ more) (Some k) s) (sym later.0)
    (subst (λ cut. MatchBool (leb (used + n) 65536 && leb (count_by (λ b. eqb b 10) cut) 102) (JudgesHead head_only used cut s) (s ≡ decide TooLarge))
    (sym (take-append-le n bytes more later.1)) x)

stays_line : (reply : Reply) (used : ℕ) (bytes more : List ℕ) (o o' : Option ℕ) (s : Step)
    → Later (length bytes) o o' → CutsLine reply used bytes o s → IsSettled s
    → CutsLine reply used (bytes ++ more) o' s
stays_line reply used bytes more None None s later x go =
    let longer = length-append bytes more in
    let past = past_limit _ (leb (length (bytes ++ more)) 4096) s (held _ _ 4096 (omega arith)) x go in
    past.0 ∙ ap (λ c. cond c wait (decide TooLarge)) (sym past.1)
stays_line reply used bytes more None (Some m) s later x go =
    let past = past_limit _ (leb m 4096) s (held _ _ 4096 (omega arith)) x go in
    otherwise _ _ _ past.1 past.0
stays_line reply used bytes more (Some n) None s later x go = absurd later
stays_line reply used bytes more (Some n) (Some m) s later x go =
    subst (λ k. CutsLine reply used (bytes ++ more) (Some k) s) (sym later.0)
    (subst (λ cut. MatchBool (leb n 4096) (JudgesLine reply used cut s) (s ≡ decide TooLarge))
    (sym (take-append-le n bytes more later.1)) x)

stays_trailer : (reply : Reply) (used : ℕ) (bytes more : List ℕ) (o o' : Option ℕ) (s : Step)
    → Later (length bytes) o o' → s ≡ trailer_step reply used bytes o → IsSettled s
    → s ≡ trailer_step reply used (bytes ++ more) o'
stays_trailer reply used bytes more None None s later x go =
    let longer = length-append bytes more in
    let past = past_limit _ (leb (used + length (bytes ++ more)) 65536) s (held _ _ 65536 (omega arith)) x go in
    past.0 ∙ ap (λ c. cond c wait (decide TooLarge)) (sym past.1)
stays_trailer reply used bytes more None (Some m) s later x go =
    let past = past_limit _ (leb (used + m) 65536) s (held _ _ 65536 (omega arith)) x go in
    past.0 ∙ ap (λ c. cond c (cond (is_some (empty_line (take m (bytes ++ more)))) (decide (Whole reply)) (move (trailers reply (used + m)) m)) (decide TooLarge)) (sym past.1)
stays_trailer reply used bytes more (Some n) None s later x go = absurd later
stays_trailer reply used bytes more (Some n) (Some m) s later x go =
    x ∙ ap (λ cut. cond (leb (used + n) 65536) (cond (is_some (empty_line cut)) (decide (Whole reply)) (move (trailers reply (used + n)) n)) (decide TooLarge)) (sym (take-append-le n bytes more later.1))
    ∙ ap (λ k. trailer_step reply used (bytes ++ more) (Some k)) (sym later.0)

wrong_stays : (c d : Bool) (next s : Step) → s ≡ cond c wait (decide Malformed) → IsSettled s
    → s ≡ cond (c && d) next (decide Malformed)
wrong_stays true d next s e go = absurd (settled s e go)
wrong_stays false d next s e go = e

stays_after : (next s : Step) (rest more : List ℕ) → s ≡ after_chunk next rest → IsSettled s
    → s ≡ after_chunk next (rest ++ more)
stays_after next s [] more e go = absurd (settled s e go)
stays_after next s (b ∷ []) [] e go = e
stays_after next s (b ∷ []) (c ∷ more) e go = wrong_stays (eqb b 13) (eqb c 10) next s e go
stays_after next s (b ∷ (c ∷ rest)) more e go = e

some_left : (next s : Step) (rest : List ℕ) → s ≡ after_chunk next rest → IsSettled s → 0 < length rest
some_left next s [] e go = absurd (settled s e go)
some_left next s (b ∷ rest) e go = omega arith

-- the chunk is there, where its end is judged
there : (next s : Step) (size : ℕ) (bytes : List ℕ) → s ≡ after_chunk next (drop size bytes) → IsSettled s → size ≤ length bytes
there next s size bytes e go = omega (arith, some_left next s (drop size bytes) e go, length-drop size bytes)

le_test : (m n : ℕ) → m ≤ n → leb m n ≡ true
le_test m n h = grind (arith, nat_tests)

test_le : (m n : ℕ) → leb m n ≡ true → m ≤ n
test_le m n h = grind (arith, nat_tests)

chosen_true : (c : Bool) (s t : Step) → s ≡ cond c t wait → IsSettled s → (s ≡ t) × (c ≡ true)
chosen_true true s t e go = (e, refl)
chosen_true false s t e go = absurd (settled s e go)

pub stays : (head_only : Bool) (p : Phase) (bytes more : List ℕ) (s : Step)
    → Does head_only p bytes s → IsSettled s → Does head_only p (bytes ++ more) s
stays head_only (heads used) bytes more s x go =
    stays_head head_only used bytes more _ _ s (head_end_later bytes more) x go
stays head_only (fixed reply size) bytes more s x go =
    let whole = chosen_true (leb size (length bytes)) s (decide (Whole (with_more reply (take size bytes)))) x go in
    let longer = length-append bytes more in
    let within = test_le size (length bytes) whole.1 in
    whole.0 ∙ ap (λ cut. decide (Whole (with_more reply cut))) (sym (take-append-le size bytes more within))
    ∙ ap (λ c. cond c (decide (Whole (with_more reply (take size (bytes ++ more))))) wait) (sym (le_test size (length (bytes ++ more)) (omega arith)))
stays head_only (lines reply used) bytes more s x go =
    stays_line reply used bytes more _ _ s (line_end_later bytes more) x go
stays head_only (chunk reply used size) bytes more s x go =
    let within = there _ s size bytes x go in
    stays_after _ s (drop size bytes) more x go
    ∙ ap (λ cut. after_chunk (move (lines (with_more reply cut) used) (size + 2)) (drop size bytes ++ more)) (sym (take-append-le size bytes more within))
    ∙ ap (after_chunk (move (lines (with_more reply (take size (bytes ++ more))) used) (size + 2))) (sym (drop-append-le size bytes more within))
stays head_only (trailers reply used) bytes more s x go =
    stays_trailer reply used bytes more _ _ s (line_end_later bytes more) x go
stays head_only (to_end reply) bytes more s x go =
    let longer = length-append bytes more in
    let past = past_limit _ (leb (length (bytes ++ more)) 67108864) s (held _ _ 67108864 (omega arith)) x go in
    past.0 ∙ ap (λ c. cond c wait (decide TooLarge)) (sym past.1)

-- ---- a move takes bytes

taken_none : (c : Bool) (q : Phase) (k size : ℕ) → move q k ≡ cond c wait (decide TooLarge) → (0 < k) × (k ≤ size)
taken_none true q k size e = cc
taken_none false q k size e = cc

taken_head : (used size n : ℕ) (reply : Reply) (kind : Kind) (q : Phase) (k : ℕ)
    → move q k ≡ after_head used n reply kind → (0 < n) × (n ≤ size) → (0 < k) × (k ≤ size)
taken_head used size n reply Interim q k e h = let same : k ≡ n = cc in (omega arith, omega arith)
taken_head used size n reply NoBody q k e h = cc
taken_head used size n reply Chunked q k e h = let same : k ≡ n = cc in (omega arith, omega arith)
taken_head used size n reply (Fixed m) q k e h = let same : k ≡ n = cc in (omega arith, omega arith)
taken_head used size n reply ToEnd q k e h = let same : k ≡ n = cc in (omega arith, omega arith)
taken_head used size n reply Bad q k e h = cc
taken_head used size n reply Big q k e h = cc

-- the first n bytes, by their length
cut_within : (n : ℕ) (bytes : List ℕ) → (0 < n) × (n ≤ length bytes) → (0 < length (take n bytes)) × (length (take n bytes) ≤ length bytes)
cut_within n bytes h = let e = length-take-le n bytes h.1 in (omega arith, omega arith)

taken_judged : (head_only : Bool) (used : ℕ) (head : List ℕ) (size : ℕ) (q : Phase) (k : ℕ)
    → JudgesHead head_only used head (move q k) → (0 < length head) × (length head ≤ size) → (0 < k) × (k ≤ size)
taken_judged head_only used head size q k (inl a) h =
    taken_head used size (length head) (reply_of a.0) (kind_of head_only (reply_of a.0).status (reply_of a.0).headers) q k a.2 h
taken_judged head_only used head size q k (inr a) h = let apart = a.1 in cc

by_test_taken : (c : Bool) (P : Type 0) (q : Phase) (k size : ℕ) → (P → (0 < k) × (k ≤ size))
    → MatchBool c P (move q k ≡ decide TooLarge) → (0 < k) × (k ≤ size)
by_test_taken true P q k size f h = f h
by_test_taken false P q k size f h = cc

taken_cut : (head_only : Bool) (used : ℕ) (bytes : List ℕ) (o : Option ℕ) (q : Phase) (k : ℕ)
    → IsEndWithin (length bytes) o → CutsHead head_only used bytes o (move q k) → (0 < k) × (k ≤ length bytes)
taken_cut head_only used bytes None q k within x = taken_none _ q k (length bytes) x
taken_cut head_only used bytes (Some n) q k within x =
    by_test_taken _ (JudgesHead head_only used (take n bytes) (move q k)) q k (length bytes)
    (λ j. taken_judged head_only used (take n bytes) (length bytes) q k j (cut_within n bytes within)) x

taken_sized : (c d : Bool) (size n : ℕ) (p r : Phase) (q : Phase) (k : ℕ)
    → move q k ≡ cond c (move p n) (cond d (move r n) (decide TooLarge)) → (0 < n) × (n ≤ size) → (0 < k) × (k ≤ size)
taken_sized true d size n p r q k e h = let same : k ≡ n = cc in (omega arith, omega arith)
taken_sized false true size n p r q k e h = let same : k ≡ n = cc in (omega arith, omega arith)
taken_sized false false size n p r q k e h = cc

taken_read : (reply : Reply) (used : ℕ) (line : List ℕ) (size : ℕ) (q : Phase) (k : ℕ)
    → JudgesLine reply used line (move q k) → (0 < length line) × (length line ≤ size) → (0 < k) × (k ≤ size)
taken_read reply used line size q k (inl a) h =
    taken_sized _ _ size (length line) (trailers reply used) (chunk reply used (chunk_size a.0)) q k a.2 h
taken_read reply used line size q k (inr a) h = let apart = a.1 in cc

taken_line : (reply : Reply) (used : ℕ) (bytes : List ℕ) (o : Option ℕ) (q : Phase) (k : ℕ)
    → IsEndWithin (length bytes) o → CutsLine reply used bytes o (move q k) → (0 < k) × (k ≤ length bytes)
taken_line reply used bytes None q k within x = taken_none _ q k (length bytes) x
taken_line reply used bytes (Some n) q k within x =
    by_test_taken _ (JudgesLine reply used (take n bytes) (move q k)) q k (length bytes)
    (λ j. taken_read reply used (take n bytes) (length bytes) q k j (cut_within n bytes within)) x

taken_skipped : (c d : Bool) (size n : ℕ) (reply : Reply) (p : Phase) (q : Phase) (k : ℕ)
    → move q k ≡ cond c (cond d (decide (Whole reply)) (move p n)) (decide TooLarge) → (0 < n) × (n ≤ size) → (0 < k) × (k ≤ size)
taken_skipped true true size n reply p q k e h = cc
taken_skipped true false size n reply p q k e h = let same : k ≡ n = cc in (omega arith, omega arith)
taken_skipped false d size n reply p q k e h = cc

taken_trailer : (reply : Reply) (used : ℕ) (bytes : List ℕ) (o : Option ℕ) (q : Phase) (k : ℕ)
    → IsEndWithin (length bytes) o → move q k ≡ trailer_step reply used bytes o → (0 < k) × (k ≤ length bytes)
taken_trailer reply used bytes None q k within x = taken_none _ q k (length bytes) x
taken_trailer reply used bytes (Some n) q k within x =
    taken_skipped _ _ (length bytes) n reply (trailers reply (used + n)) q k x within

unless_wrong : (c : Bool) (q : Phase) (k : ℕ) (p : Phase) (n : ℕ) → move q k ≡ cond c (move p n) (decide Malformed) → k ≡ n
unless_wrong true q k p n e = cc
unless_wrong false q k p n e = cc

no_wait_or_wrong : (c : Bool) (q : Phase) (k : ℕ) (P : Type 0) → move q k ≡ cond c wait (decide Malformed) → P
no_wait_or_wrong true q k P e = absurd cc
no_wait_or_wrong false q k P e = absurd cc

taken_after : (p : Phase) (n : ℕ) (rest : List ℕ) (q : Phase) (k : ℕ) → move q k ≡ after_chunk (move p n) rest
    → (k ≡ n) × (2 ≤ length rest)
taken_after p n [] q k e = cc
taken_after p n (b ∷ []) q k e = no_wait_or_wrong (eqb b 13) q k _ e
taken_after p n (b ∷ (c ∷ rest)) q k e = (unless_wrong (eqb b 13 && eqb c 10) q k p n e, omega arith)

whole_or_wait : (c : Bool) (o : Outcome) (q : Phase) (k : ℕ) (P : Type 0) → move q k ≡ cond c (decide o) wait → P
whole_or_wait true o q k P e = absurd cc
whole_or_wait false o q k P e = absurd cc

pub takes_within : (head_only : Bool) (p : Phase) (bytes : List ℕ) (q : Phase) (k : ℕ)
    → Does head_only p bytes (move q k) → (0 < k) × (k ≤ length bytes)
takes_within head_only (heads used) bytes q k x = taken_cut head_only used bytes _ q k (head_end_within bytes) x
takes_within head_only (fixed reply size) bytes q k x = whole_or_wait _ _ q k _ x
takes_within head_only (lines reply used) bytes q k x = taken_line reply used bytes _ q k (line_end_within bytes) x
takes_within head_only (chunk reply used size) bytes q k x =
    let after = taken_after (lines (with_more reply (take size bytes)) used) (size + 2) (drop size bytes) q k x in
    let left = length-drop size bytes in
    (omega arith, omega arith)
takes_within head_only (trailers reply used) bytes q k x = taken_trailer reply used bytes _ q k (line_end_within bytes) x
takes_within head_only (to_end reply) bytes q k x = taken_none _ q k (length bytes) x
