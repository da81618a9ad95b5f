-- Where the lines and heads that the grammar prints end.
use Rattle.std.proofs.Common.{◌≡◌, ℕ, suc, ◌+◌, ◌<◌, ◌≤◌, Bool, true, false, cond, eqb, ◌&&◌, List, [], ◌∷◌, ◌++◌, length, get_or, Option, None, Some, refl, sym, ap, ◌∙◌, arith, zero-add, append_assoc, length-append, append-nil}
use Rattle.std.specs.Prelude.{All, option_map, count_by}
use Rattle.std.specs.Option.{option_or}
use Rattle.std.specs.Char.{is_ascii_digit}
use Rattle.std.proofs.lemmas.Bool.{ne_eqb, false≢true}
use Rattle.std.proofs.lemmas.List.Elements.{All-head, All-tail}
use Rattle.std.proofs.lemmas.List.Sums.{sum_by-append}
use Rattle.httparse.specs.Grammar.{is_token_byte, is_value_byte, AllPass, LineEnd, crlf, lf, print_end, print_blank, print_version, Field, IsField, print_section, ResponseHead, IsResponseHead, print_reason, reason_phrase, print_response}
use Rattle.httparse.proofs.GrammarLemmas.{print_response-append, cons-append}
use Rattle.http_reply.specs.Cuts.{empty_line, head_end, line_end}
use Rattle.http_reply.specs.Printed.{IsPlainHead}

-- no byte is a line feed
abbrev pub HasNoFeed : List ℕ → Type 0
HasNoFeed [] = Unit {0}
HasNoFeed (b ∷ bytes) = (eqb b 10 ≡ false) × HasNoFeed bytes

-- no byte that passes a test that LF fails is one
apart : (test : ℕ → Bool) (c b : ℕ) → test c ≡ false → test b ≡ true → eqb b c ≡ false
apart test c b fails passes = ne_eqb b c (λ e. false≢true (sym fails ∙ ap test (sym e) ∙ passes))

pub HasNoFeed-pass : (test : ℕ → Bool) → test 10 ≡ false → (bytes : List ℕ) → AllPass test bytes → HasNoFeed bytes
HasNoFeed-pass test fails [] all = tt
HasNoFeed-pass test fails (b ∷ bytes) all =
    (apart test 10 b fails (All-head (λ c. test c ≡ true) b bytes all), HasNoFeed-pass test fails bytes (All-tail (λ c. test c ≡ true) b bytes all))

pub HasNoFeed-append : (a b : List ℕ) → HasNoFeed a → HasNoFeed b → HasNoFeed (a ++ b)
HasNoFeed-append [] b x y = y
HasNoFeed-append (c ∷ a) b x y = (x.0, HasNoFeed-append a b x.1 y)

abbrev next : Option ℕ → Option ℕ
next o = option_map (λ n. n + 1) o

-- ---- lines

-- a line ends at its line end
pub line_end-printed : (text : List ℕ) → HasNoFeed text → (e : LineEnd) (rest : List ℕ)
    → line_end (text ++ (print_end e ++ rest)) ≡ Some (length text + length (print_end e))
line_end-printed [] none crlf rest = refl
line_end-printed [] none lf rest = refl
line_end-printed (b ∷ text) none e rest =
    ap (λ c. next (cond c (Some 0) (line_end (text ++ (print_end e ++ rest))))) none.0
    ∙ ap next (line_end-printed text none.1 e rest) ∙ ap Some (omega arith)

-- ---- heads

over : (a : Option ℕ) (m n : ℕ) → m + 1 ≡ n → next (option_map (λ k. k + m) a) ≡ option_map (λ k. k + n) a
over None m n e = refl
over (Some k) m n e = ap Some (omega arith)

after_feed : (rest : List ℕ) → empty_line rest ≡ None → head_end (10 ∷ rest) ≡ next (head_end rest)
after_feed rest none = ap (λ e. next (option_or e (head_end rest))) none

two_on : (a : Option ℕ) → next (next a) ≡ option_map (λ k. k + 2) a
two_on None = refl
two_on (Some k) = ap Some (omega arith)

-- a line that no empty one follows is passed over
pub head_end-over : (text : List ℕ) → HasNoFeed text → (e : LineEnd) (rest : List ℕ) → empty_line rest ≡ None
    → head_end (text ++ (print_end e ++ rest)) ≡ option_map (λ k. k + (length text + length (print_end e))) (head_end rest)
head_end-over [] none crlf rest last = ap next (after_feed rest last) ∙ two_on (head_end rest)
head_end-over [] none lf rest last = after_feed rest last
head_end-over (b ∷ text) none e rest last =
    ap (λ c. next (option_or (cond c (empty_line (text ++ (print_end e ++ rest))) None) (head_end (text ++ (print_end e ++ rest))))) none.0
    ∙ ap next (head_end-over text none.1 e rest last)
    ∙ over (head_end rest) (length text + length (print_end e)) (suc (length text) + length (print_end e)) (omega arith)

-- a line that an empty one follows ends the head
pub head_end-last : (text : List ℕ) → HasNoFeed text → (e : LineEnd) (rest : List ℕ) (k : ℕ) → empty_line rest ≡ Some k
    → head_end (text ++ (print_end e ++ rest)) ≡ Some (length text + length (print_end e) + k)
head_end-last [] none crlf rest k last = ap (λ o. next (next (option_or o (head_end rest)))) last ∙ ap Some (omega arith)
head_end-last [] none lf rest k last = ap (λ o. next (option_or o (head_end rest))) last ∙ ap Some (omega arith)
head_end-last (b ∷ text) none e rest k last =
    ap (λ c. next (option_or (cond c (empty_line (text ++ (print_end e ++ rest))) None) (head_end (text ++ (print_end e ++ rest))))) none.0
    ∙ ap next (head_end-last text none.1 e rest k last) ∙ ap Some (omega arith)

-- ---- empty lines

pub empty_line-end : (e : LineEnd) (rest : List ℕ) → empty_line (print_end e ++ rest) ≡ Some (length (print_end e))
empty_line-end crlf rest = refl
empty_line-end lf rest = refl

none_at : (feed return other : Bool) → feed ≡ false → return ≡ false → cond {A = Option ℕ} feed (Some 1) (cond (return && other) (Some 2) None) ≡ None
none_at true cr other e f = cc
none_at false true other e f = cc
none_at false false other e f = refl

-- a byte that is neither CR nor LF begins no empty line
pub empty_line-none : (b : ℕ) (bytes : List ℕ) → eqb b 10 ≡ false → eqb b 13 ≡ false → empty_line (b ∷ bytes) ≡ None
empty_line-none b bytes feed return = none_at (eqb b 10) (eqb b 13) (eqb (get_or bytes 0 0) 10) feed return

token_feed : is_token_byte 10 ≡ false
unfolding is_token_byte
token_feed = refl

token_return : is_token_byte 13 ≡ false
unfolding is_token_byte
token_return = refl

-- ---- sections

-- a field line without its end
abbrev pub field_text : Field → List ℕ
field_text f = f.name ++ 58 ∷ f.raw

pub HasNoFeed-field : (f : Field) → IsField f → HasNoFeed (field_text f)
HasNoFeed-field f x =
    HasNoFeed-append f.name (58 ∷ f.raw) (HasNoFeed-pass is_token_byte token_feed f.name x.name.1)
    (refl, HasNoFeed-pass is_value_byte refl f.raw x.raw)

-- a field begins no empty line
pub empty_line-field : (f : Field) (rest : List ℕ) → IsField f → empty_line (field_text f ++ rest) ≡ None
empty_line-field f rest x = begins f.name x.name.0 x.name.1 (58 ∷ f.raw) rest
  where
    begins : (name : List ℕ) → 0 < length name → AllPass is_token_byte name → (raw rest : List ℕ) → empty_line ((name ++ raw) ++ rest) ≡ None
    begins [] some all raw rest = absurd (omega arith)
    begins (b ∷ name) some all raw rest =
        let passes = All-head (λ c. is_token_byte c ≡ true) b name all in
        empty_line-none b ((name ++ raw) ++ rest) (apart is_token_byte 10 b token_feed passes) (apart is_token_byte 13 b token_return passes)

-- the first field line of a section, and what follows it
pub section-cons : (f : Field) (fields : List Field) (last : LineEnd) (rest : List ℕ)
    → print_section (f ∷ fields) last ++ rest ≡ field_text f ++ (print_end f.end ++ (print_section fields last ++ rest))
section-cons f fields last rest = simp (append_assoc, cons-append)

pub length-section-cons : (f : Field) (fields : List Field) (last : LineEnd)
    → length (print_section (f ∷ fields) last) ≡ length (field_text f) + length (print_end f.end) + length (print_section fields last)
length-section-cons f fields last =
    ap length (sym (append-nil (print_section (f ∷ fields) last)) ∙ section-cons f fields last [])
    ∙ length-append (field_text f) (print_end f.end ++ (print_section fields last ++ []))
    ∙ ap (λ n. length (field_text f) + n) (length-append (print_end f.end) (print_section fields last ++ []))
    ∙ ap (λ s. length (field_text f) + (length (print_end f.end) + length s)) (append-nil (print_section fields last))
    ∙ omega arith

-- a line and a section after it end a head
pub head_end-section : (fields : List Field) → All IsField fields → (last : LineEnd) (rest text : List ℕ) → HasNoFeed text → (e : LineEnd)
    → head_end (text ++ (print_end e ++ (print_section fields last ++ rest))) ≡ Some (length text + length (print_end e) + length (print_section fields last))
head_end-section [] all last rest text none e =
    head_end-last text none e (print_end last ++ rest) (length (print_end last)) (empty_line-end last rest)
head_end-section (f ∷ fields) all last rest text none e =
    let field = All-head IsField f fields all in
    let tail = head_end-section fields (All-tail IsField f fields all) last rest (field_text f) (HasNoFeed-field f field) f.end in
    let more = print_end f.end ++ (print_section fields last ++ rest) in
    let size = length-section-cons f fields last in
    ap (λ s. head_end (text ++ (print_end e ++ s))) (section-cons f fields last rest)
    ∙ head_end-over text none e (field_text f ++ more) (empty_line-field f more field)
    ∙ ap (option_map (λ k. k + (length text + length (print_end e)))) tail
    ∙ ap Some (omega arith)

-- ---- whole heads

-- a status line without its end
abbrev pub status_text : ResponseHead → List ℕ
status_text h = print_version h.minor ++ 32 ∷ (h.digits ++ print_reason h.reason)

-- a head by its lines
pub head-lines : (h : ResponseHead) (rest : List ℕ)
    → print_response h ++ rest ≡ print_blank h.blank ++ (status_text h ++ (print_end h.line_end ++ (print_section h.fields h.last ++ rest)))
head-lines h rest =
    print_response-append h rest
    ∙ ap (λ s. print_blank h.blank ++ s)
    (regroup (print_version h.minor) h.digits (print_reason h.reason) (print_end h.line_end ++ (print_section h.fields h.last ++ rest)))
  where
    regroup : (a b c d : List ℕ) → a ++ 32 ∷ (b ++ (c ++ d)) ≡ (a ++ 32 ∷ (b ++ c)) ++ d
    regroup a b c d = simp (append_assoc, cons-append)

pub length-head : (h : ResponseHead)
    → length (print_response h) ≡ length (print_blank h.blank) + (length (status_text h) + (length (print_end h.line_end) + length (print_section h.fields h.last)))
length-head h =
    let section = print_section h.fields h.last ++ [] in
    ap length (sym (append-nil (print_response h)) ∙ head-lines h [])
    ∙ length-append (print_blank h.blank) (status_text h ++ (print_end h.line_end ++ section))
    ∙ ap (λ n. length (print_blank h.blank) + n) (length-append (status_text h) (print_end h.line_end ++ section)
    ∙ ap (λ n. length (status_text h) + n) (length-append (print_end h.line_end) section
    ∙ ap (λ s. length (print_end h.line_end) + length s) (append-nil (print_section h.fields h.last))))

HasNoFeed-reason : (reason : Option (List ℕ)) → AllPass is_value_byte (reason_phrase reason) → HasNoFeed (print_reason reason)
HasNoFeed-reason None all = tt
HasNoFeed-reason (Some phrase) all = (refl, HasNoFeed-pass is_value_byte refl phrase all)

HasNoFeed-version : (minor : ℕ) → HasNoFeed (print_version minor)
HasNoFeed-version minor =
    let last = ne_eqb (48 + minor) 10 (λ e. absurd (omega arith)) in
    (refl, (refl, (refl, (refl, (refl, (refl, (refl, (last, tt))))))))

pub HasNoFeed-status : (h : ResponseHead) → IsResponseHead h → HasNoFeed (status_text h)
HasNoFeed-status h x =
    HasNoFeed-append (print_version h.minor) (32 ∷ (h.digits ++ print_reason h.reason)) (HasNoFeed-version h.minor)
    (refl, HasNoFeed-append h.digits (print_reason h.reason) (HasNoFeed-pass is_ascii_digit refl h.digits x.digits.1) (HasNoFeed-reason h.reason x.reason))

empty_line-version : (minor : ℕ) (rest : List ℕ) → empty_line (print_version minor ++ rest) ≡ None
empty_line-version minor rest = refl

empty_line-status : (h : ResponseHead) (rest : List ℕ) → empty_line (status_text h ++ rest) ≡ None
empty_line-status h rest =
    ap empty_line (append_assoc (print_version h.minor) (32 ∷ (h.digits ++ print_reason h.reason)) rest)
    ∙ empty_line-version h.minor ((32 ∷ (h.digits ++ print_reason h.reason)) ++ rest)

-- at most one empty line before a head is passed over
after_blank : (blank : List LineEnd) (bytes : List ℕ) → length blank ≤ 1 → empty_line bytes ≡ None
    → head_end (print_blank blank ++ bytes) ≡ option_map (λ k. k + length (print_blank blank)) (head_end bytes)
after_blank [] bytes few none = unshifted (head_end bytes)
  where
    unshifted : (a : Option ℕ) → a ≡ option_map (λ n. n + 0) a
    unshifted None = refl
    unshifted (Some n) = ap Some (omega arith)
after_blank (e ∷ []) bytes few none =
    ap (λ s. head_end (s ++ bytes)) (append-nil (print_end e)) ∙ head_end-over [] tt e bytes none
    ∙ ap (λ n. option_map (λ k. k + n) (head_end bytes)) (zero-add (length (print_end e)) ∙ sym (ap length (append-nil (print_end e))))
after_blank (e ∷ f ∷ blank) bytes few none = absurd (omega arith)

-- a head ends where it was printed to
pub head_end-printed : (h : ResponseHead) (rest : List ℕ) → IsPlainHead h → head_end (print_response h ++ rest) ≡ Some (length (print_response h))
head_end-printed h rest x =
    let after = print_end h.line_end ++ (print_section h.fields h.last ++ rest) in
    let size = length-head h in
    ap head_end (head-lines h rest)
    ∙ after_blank h.blank (status_text h ++ after) x.blank (empty_line-status h after)
    ∙ ap (option_map (λ k. k + length (print_blank h.blank)))
    (head_end-section h.fields x.valid.fields h.last rest (status_text h) (HasNoFeed-status h x.valid) h.line_end)
    ∙ ap Some (omega arith)

-- ---- line feeds

abbrev pub feeds : List ℕ → ℕ
feeds bytes = count_by (λ b. eqb b 10) bytes

feeds-append : (a b : List ℕ) → feeds (a ++ b) ≡ feeds a + feeds b
feeds-append a b = sum_by-append (λ c. cond (eqb c 10) 1 0) a b

feeds-none : (text : List ℕ) → HasNoFeed text → feeds text ≡ 0
feeds-none [] none = refl
feeds-none (b ∷ text) none =
    feeds-append (b ∷ []) text ∙ ap (λ n. feeds (b ∷ []) + n) (feeds-none text none.1)
    ∙ ap (λ c. 0 + cond c 1 0 + 0) none.0

feeds-end : (e : LineEnd) → feeds (print_end e) ≡ 1
feeds-end crlf = refl
feeds-end lf = refl

feeds-section : (fields : List Field) → All IsField fields → (last : LineEnd) → feeds (print_section fields last) ≡ length fields + 1
feeds-section [] all last = feeds-end last
feeds-section (f ∷ fields) all last =
    let field = All-head IsField f fields all in
    let more = print_section fields last ++ [] in
    let tail = feeds-section fields (All-tail IsField f fields all) last in
    let text = feeds-none (field_text f) (HasNoFeed-field f field) in
    let end = feeds-end f.end in
    let section = ap feeds (append-nil (print_section fields last)) in
    ap feeds (sym (append-nil (print_section (f ∷ fields) last)) ∙ section-cons f fields last [])
    ∙ feeds-append (field_text f) (print_end f.end ++ more)
    ∙ ap (λ n. feeds (field_text f) + n) (feeds-append (print_end f.end) more)
    ∙ omega arith

feeds-blank : (blank : List LineEnd) → feeds (print_blank blank) ≡ length blank
feeds-blank [] = refl
feeds-blank (e ∷ blank) =
    feeds-append (print_end e) (print_blank blank)
    ∙ omega (arith, feeds-end e, feeds-blank blank)

-- how many line feeds a head has
pub feeds-head : (h : ResponseHead) → IsResponseHead h → feeds (print_response h) ≡ length h.blank + length h.fields + 2
feeds-head h x =
    let section = print_section h.fields h.last ++ [] in
    let lines = print_end h.line_end ++ section in
    let none = feeds-none (status_text h) (HasNoFeed-status h x) in
    let end = feeds-end h.line_end in
    let fields = feeds-section h.fields x.fields h.last in
    let blank = feeds-blank h.blank in
    let nothing = ap feeds (append-nil (print_section h.fields h.last)) in
    ap feeds (sym (append-nil (print_response h)) ∙ head-lines h [])
    ∙ feeds-append (print_blank h.blank) (status_text h ++ lines)
    ∙ ap (λ n. feeds (print_blank h.blank) + n) (feeds-append (status_text h) lines
    ∙ ap (λ n. feeds (status_text h) + n) (feeds-append (print_end h.line_end) section))
    ∙ omega arith
