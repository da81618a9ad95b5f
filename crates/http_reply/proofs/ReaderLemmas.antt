-- What the readers of heads and chunk lines answer: the piece of the grammar at the front, if there is one.
use Rattle.std.proofs.Common.{◌≡◌, ◌≢◌, ℕ, zero, suc, ◌+◌, ◌≤◌, ◌⊎◌, inl, inr, Bool, true, false, cond, eqb, leb, ltb, ◌&&◌, List, [], ◌∷◌, ◌++◌, length, codes, Option, None, Some, refl, sym, ap, ◌∙◌, subst, arith, append_assoc}
use Rattle.std.specs.Prelude.{option_map, option_and_then, MatchOption, ⊤}
use Rattle.std.specs.Option.{option_or}
use Rattle.std.specs.List.{flat_map}
use Rattle.std.specs.Char.{is_ascii_digit, is_ascii_hexdigit}
use Rattle.std.proofs.lemmas.Bool.{false≢true, both_ways, eqb-true, eqb-false, or_from, ltb-true, ltb-false, leb-true, leb-false}
use Rattle.std.proofs.lemmas.List.Elements.{All-nil, All-cons, All-head, All-tail}
use Rattle.httparse.specs.Grammar.{LineEnd, crlf, lf, print_end, print_blank, Field, print_field, IsField, is_token_byte, is_value_byte, is_ows, is_extension_byte, ResponseHead, ReadsResponse, ChunkLine, ReadsChunkLine}
use Rattle.httparse.specs.Pieces.{Piece, Begins, Then, Stops, is_newline, Bytes, Newline, Blank, Word, Version, Digit, Code, Text, Reason, FieldLine, Section, SectionOfAtMost, Run, ResponseStart, HexDigits, Extension, Chunk}
use Rattle.http_reply.specs.Machine.{ReadsHead}
use Rattle.httparse.proofs.PieceLemmas.{IsDeterministic, Then_deterministic, Bytes_deterministic, Blank_deterministic, Version_deterministic, Code_deterministic, Digit_deterministic, Name_deterministic, FieldLine_deterministic, FieldLine_parts, print_field-append, colon_ends_token, ResponseStart_deterministic, Section_deterministic}
use Rattle.httparse.proofs.ChunkLemmas.{Run_deterministic, HexDigits_deterministic, Chunk_deterministic, chunk_pieces, chunk_from_pieces}
use Rattle.httparse.proofs.GrammarLemmas.{response_pieces, response_from_pieces}
use Rattle.http_reply.specs.Readers.{both, read_run, read_byte, read_bytes, read_end, read_blank, read_minor, read_version, read_code, read_value, read_reason, before_colon, read_name, read_field, read_section, whole, HeadTree, read_head, head_of, head_in, read_digits, read_extension, ChunkTree, read_chunk_line, chunk_line_of, chunk_line_in}

-- the text begins with what was read, and with no such piece where nothing was
abbrev pub Read : {A : Type 0} → Piece A → List ℕ → Option (A × List ℕ) → Type 0
Read {A} G text None = (a : A) (rest : List ℕ) → G a text rest → ⊥
Read G text (Some x) = G x.0 text x.1

-- ---- pieces by other pieces

pub read_as : {A B : Type 0} (G : Piece A) (H : Piece B) (f : A → B) (s t : List ℕ) (o : Option (A × List ℕ))
    → ((a : A) (rest : List ℕ) → G a s rest → H (f a) t rest)
    → ((b : B) (rest : List ℕ) → H b t rest → Begins G s)
    → Read G s o → Read H t (option_map (λ r. (f r.0, r.1)) o)
read_as G H f s t None sound complete none = λ b rest h. let x = complete b rest h in none x.0 x.1 x.2
read_as G H f s t (Some x) sound complete some = sound x.0 x.1 some

second_read : {A B : Type 0} (G : Piece A) (H : Piece B) → IsDeterministic G → (text : List ℕ) (a : A × List ℕ) (o : Option (B × List ℕ))
    → G a.0 text a.1 → Read H a.1 o → Read (Then G H) text (option_map (λ b. ((a.0, b.0), b.1)) o)
second_read G H det text a None first none = λ t rest h.
    let same = det.unique a.0 t.0 text a.1 h.0 first h.1 in
    none t.1 rest (subst (λ m. H t.1 m rest) (sym same.1) h.2)
second_read G H det text a (Some b) first some = (a.1, first, some)

first_read : {A B : Type 0} (G : Piece A) (H : Piece B) → IsDeterministic G → (text : List ℕ) (o : Option (A × List ℕ)) (second : List ℕ → Option (B × List ℕ))
    → Read G text o → ((rest : List ℕ) → Read H rest (second rest))
    → Read (Then G H) text (option_and_then (λ a. option_map (λ b. ((a.0, b.0), b.1)) (second a.1)) o)
first_read G H det text None second none each = λ t rest h. none t.0 h.0 h.1
first_read G H det text (Some a) second some each = second_read G H det text a (second a.1) some (each a.1)

pub both_read : {A B : Type 0} (G : Piece A) (H : Piece B) (first : List ℕ → Option (A × List ℕ)) (second : List ℕ → Option (B × List ℕ)) → IsDeterministic G
    → ((text : List ℕ) → Read G text (first text)) → ((text : List ℕ) → Read H text (second text))
    → (text : List ℕ) → Read (Then G H) text (both first second text)
both_read G H first second det one other text = first_read G H det text (first text) second (one text) other

-- ---- runs and bytes

nothing_stops : (test : ℕ → Bool) (a rest : List ℕ) → [] ≡ a ++ rest → Stops test rest → ⊥
nothing_stops test [] [] e s = s
nothing_stops test [] (c ∷ rest) e s = absurd cc
nothing_stops test (x ∷ a) rest e s = absurd cc

longer_run : (test : ℕ → Bool) (b : ℕ) (text : List ℕ) → test b ≡ true → (a rest : List ℕ) → Run test a (b ∷ text) rest → Begins (Run test) text
longer_run test b text e [] rest h = absurd (both_ways (test b) (subst (Stops test) (sym h.1) h.2) e)
longer_run test b text e (x ∷ a) rest h = (a, rest, (All-tail (λ v. test v ≡ true) x a h.0, cc, h.2))

run_more : (test : ℕ → Bool) (b : ℕ) (text : List ℕ) (c : Bool) → test b ≡ c → (o : Option (List ℕ × List ℕ)) → Read (Run test) text o
    → Read (Run test) (b ∷ text) (cond c (option_map (λ r. (b ∷ r.0, r.1)) o) (Some ([], b ∷ text)))
run_more test b text true e o x =
    read_as (Run test) (Run test) (λ a. b ∷ a) text (b ∷ text) o
    (λ a rest h. (All-cons (λ v. test v ≡ true) b a e h.0, ap (λ t. b ∷ t) h.1, h.2))
    (λ a rest h. longer_run test b text e a rest h) x
run_more test b text false e o x = (All-nil (λ v. test v ≡ true), refl, e)

pub run_read : (test : ℕ → Bool) (text : List ℕ) → Read (Run test) text (read_run test text)
run_read test [] = λ a rest h. nothing_stops test a rest h.1 h.2
run_read test (b ∷ text) = run_more test b text (test b) refl (read_run test text) (run_read test text)

byte_at : (test : ℕ → Bool) (b : ℕ) (text : List ℕ) (c : Bool) → test b ≡ c
    → Read (λ d text rest. (test d ≡ true) × (text ≡ d ∷ rest)) (b ∷ text) (cond c (Some (b, text)) None)
byte_at test b text true e = (e, refl)
byte_at test b text false e = λ d rest h.
    let same : b ≡ d = cc in both_ways (test b) e (subst (λ v. test v ≡ true) (sym same) h.0)

digit_read : (text : List ℕ) → Read Digit text (read_byte is_ascii_digit text)
digit_read [] = λ d rest h. let e = h.1 in cc
digit_read (b ∷ text) = byte_at is_ascii_digit b text (is_ascii_digit b) refl

bytes_more : (b : ℕ) (bytes : List ℕ) (c : ℕ) (text : List ℕ) (t : Bool) → eqb c b ≡ t → (o : Option (⊤ × List ℕ)) → Read (Bytes bytes) text o
    → Read (Bytes (b ∷ bytes)) (c ∷ text) (cond t o None)
bytes_more b bytes c text true e None none = λ a rest h. none a rest cc
bytes_more b bytes c text true e (Some x) some = let same = eqb-true c b e in cc
bytes_more b bytes c text false e o x = λ a rest h. eqb-false c b e cc

pub bytes_read : (bytes text : List ℕ) → Read (Bytes bytes) text (read_bytes bytes text)
bytes_read [] text = refl
bytes_read (b ∷ bytes) [] = λ a rest h. cc
bytes_read (b ∷ bytes) (c ∷ text) = bytes_more b bytes c text (eqb c b) refl (read_bytes bytes text) (bytes_read bytes text)

-- ---- line ends

no_end : (end : LineEnd) (rest : List ℕ) → [] ≡ print_end end ++ rest → ⊥
no_end crlf rest e = cc
no_end lf rest e = cc

end_of_lf : (b : ℕ) (text : List ℕ) → b ≡ 10 → (end : LineEnd) (rest : List ℕ) → b ∷ text ≡ print_end end ++ rest → (end ≡ lf) × (text ≡ rest)
end_of_lf b text e crlf rest h = let apart : b ≡ 13 = cc in absurd (omega arith)
end_of_lf b text e lf rest h = (refl, cc)

end_of_cr : (b : ℕ) (text : List ℕ) → b ≢ 10 → (end : LineEnd) (rest : List ℕ) → b ∷ text ≡ print_end end ++ rest → (end ≡ crlf) × (b ≡ 13) × (text ≡ 10 ∷ rest)
end_of_cr b text e crlf rest h = (refl, cc, cc)
end_of_cr b text e lf rest h = absurd (e cc)

end_more : (b : ℕ) (text : List ℕ) (t : Bool) → eqb b 10 ≡ t → (u : Bool) → eqb b 13 ≡ u → (o : Option (⊤ × List ℕ)) → Read (Bytes (10 ∷ [])) text o
    → Read Newline (b ∷ text) (cond t (Some (lf, text)) (cond u (option_map (λ r. (crlf, r.1)) o) None))
end_more b text true e u d o x = ap (λ v. v ∷ text) (eqb-true b 10 e)
end_more b text false e true d o x =
    read_as (Bytes (10 ∷ [])) Newline (λ _. crlf) text (b ∷ text) o
    (λ a rest h. let same = eqb-true b 13 d in cc)
    (λ end rest h. (tt, rest, (end_of_cr b text (eqb-false b 10 e) end rest h).2)) x
end_more b text false e false d o x = λ end rest h. eqb-false b 13 d (end_of_cr b text (eqb-false b 10 e) end rest h).1

pub end_read : (text : List ℕ) → Read Newline text (read_end text)
end_read [] = no_end
end_read (b ∷ text) = end_more b text (eqb b 10) refl (eqb b 13) refl (read_bytes (10 ∷ []) text) (bytes_read (10 ∷ []) text)

-- the empty lines are none, or a line end and more of them
abbrev IsBlankFront : List LineEnd → List ℕ → List ℕ → Type 0
IsBlankFront ends text rest =
    ((ends ≡ []) × (text ≡ rest) × Stops is_newline text)
    ⊎ ((e : LineEnd) × (es : List LineEnd) × (middle : List ℕ) × (text ≡ print_end e ++ middle) × Blank es middle rest)

blank_front : (ends : List LineEnd) (text rest : List ℕ) → Blank ends text rest → IsBlankFront ends text rest
blank_front [] text rest h = inl (refl, h.0, subst (Stops is_newline) (sym h.0) h.1)
blank_front (e ∷ es) text rest h = inr (e, es, print_blank es ++ rest, h.0 ∙ append_assoc (print_end e) (print_blank es) rest, (refl, h.1))

no_blank : (ends : List LineEnd) (rest : List ℕ) → Blank ends [] rest → ⊥
no_blank ends rest h =
    elim (blank_front ends [] rest h) [ inl x ↦ x.2 | inr x ↦ no_end x.0 x.2 x.3 ]

alone : (b : ℕ) (c : Bool) → is_newline b ≡ c → Read Blank (b ∷ []) (cond c None (Some ([], b ∷ [])))
alone b false e = (refl, e)
alone b true e = λ ends rest h.
    elim (blank_front ends (b ∷ []) rest h) [
      | inl x ↦ both_ways (is_newline b) x.2 e
      | inr x ↦ after_one x.0 x.1 x.2 rest x.3 x.4
    ]
  where
    after_one : (end : LineEnd) (es : List LineEnd) (middle rest : List ℕ) → b ∷ [] ≡ print_end end ++ middle → Blank es middle rest → ⊥
    after_one crlf es middle rest h x = cc
    after_one lf es middle rest h x = let nothing : middle ≡ [] = cc in no_blank es rest (subst (λ m. Blank es m rest) nothing x)

newline_at : (b : ℕ) (text : List ℕ) → Stops is_newline (b ∷ text) → (b ≢ 10) × (b ≢ 13)
newline_at b text s = (
  λ e. false≢true (sym (subst (λ v. is_newline v ≡ false) e s)),
  λ e. false≢true (sym (subst (λ v. is_newline v ≡ false) e s)),
)

blank_more : (b c : ℕ) (text : List ℕ) (t u v : Bool) → eqb b 10 ≡ t → eqb b 13 ≡ u → eqb c 10 ≡ v → (o r : Option (List LineEnd × List ℕ))
    → Read Blank (c ∷ text) o → Read Blank text r
    → Read Blank (b ∷ c ∷ text) (cond t (option_map (λ r. (lf ∷ r.0, r.1)) o) (cond u (cond v (option_map (λ r. (crlf ∷ r.0, r.1)) r) None) (Some ([], b ∷ c ∷ text))))
blank_more b c text true u v e d f o r x y =
    let same = eqb-true b 10 e in
    read_as Blank Blank (λ ends. lf ∷ ends) (c ∷ text) (b ∷ c ∷ text) o
    (λ ends rest h. (let front = h.0 in cc, h.1))
    (λ ends rest h. elim (blank_front ends (b ∷ c ∷ text) rest h) [
      | inl z ↦ absurd ((newline_at b (c ∷ text) z.2).0 same)
      | inr z ↦ (z.1, rest, subst (λ m. Blank z.1 m rest) (sym (end_of_lf b (c ∷ text) same z.0 z.2 z.3).1) z.4)
    ]) x
blank_more b c text false true true e d f o r x y =
    let same = eqb-true b 13 d in
    let next = eqb-true c 10 f in
    read_as Blank Blank (λ ends. crlf ∷ ends) text (b ∷ c ∷ text) r
    (λ ends rest h. (let front = h.0 in cc, h.1))
    (λ ends rest h. elim (blank_front ends (b ∷ c ∷ text) rest h) [
      | inl z ↦ absurd ((newline_at b (c ∷ text) z.2).1 same)
      | inr z ↦
          let cut = (end_of_cr b (c ∷ text) (eqb-false b 10 e) z.0 z.2 z.3).2 in
          let tail : z.2 ≡ text = cc in
          (z.1, rest, subst (λ m. Blank z.1 m rest) tail z.4)
    ]) y
blank_more b c text false true false e d f o r x y = λ ends rest h.
    elim (blank_front ends (b ∷ c ∷ text) rest h) [
      | inl z ↦ (newline_at b (c ∷ text) z.2).1 (eqb-true b 13 d)
      | inr z ↦ let cut = (end_of_cr b (c ∷ text) (eqb-false b 10 e) z.0 z.2 z.3).2 in eqb-false c 10 f cc
    ]
blank_more b c text false false v e d f o r x y = (refl, or_from _ _ d e)

pub blank_read : (text : List ℕ) → Read Blank text (read_blank text)
blank_read [] = no_blank
blank_read (b ∷ []) = alone b (is_newline b) refl
blank_read (b ∷ (c ∷ text)) =
    blank_more b c text (eqb b 10) (eqb b 13) (eqb c 10) refl refl refl (read_blank (c ∷ text)) (read_blank text) (blank_read (c ∷ text)) (blank_read text)

-- ---- the start line

abbrev Minor : Piece ℕ
Minor minor text rest = (minor ≤ 1) × (text ≡ (48 + minor) ∷ rest)

minor_at : (b : ℕ) (text : List ℕ) (t u : Bool) → eqb b 48 ≡ t → eqb b 49 ≡ u
    → Read Minor (b ∷ text) (cond t (Some (0, text)) (cond u (Some (1, text)) None))
minor_at b text true u e d = (omega arith, ap (λ v. v ∷ text) (eqb-true b 48 e))
minor_at b text false true e d = (omega arith, ap (λ v. v ∷ text) (eqb-true b 49 d))
minor_at b text false false e d = λ minor rest h.
    let zero_not = eqb-false b 48 e in
    let one_not = eqb-false b 49 d in
    let same : b ≡ 48 + minor = let cut = h.1 in cc in
    let small = h.0 in
    let is_zero : minor ≡ 0 = elim (cases_of minor small) [ inl z ↦ z | inr z ↦ absurd (one_not (omega arith)) ] in
    zero_not (omega arith)
  where
    cases_of : (m : ℕ) → m ≤ 1 → (m ≡ 0) ⊎ (m ≡ 1)
    cases_of zero h = inl refl
    cases_of (suc m) h = inr (omega arith)

minor_read : (text : List ℕ) → Read Minor text (read_minor text)
minor_read [] = λ m rest h. let e = h.1 in cc
minor_read (b ∷ text) = minor_at b text (eqb b 48) (eqb b 49) refl refl

pub version_read : (text : List ℕ) → Read Version text (read_version text)
version_read text =
    read_as (Then (Bytes (codes "HTTP/1.")) Minor) Version (λ v. v.1) text text _
    (λ v rest h. (h.2.0, h.1 ∙ ap (λ t. codes "HTTP/1." ++ t) h.2.1))
    (λ v rest h. ((tt, v), rest, ((48 + v) ∷ rest, h.1, (h.0, refl))))
    (both_read (Bytes (codes "HTTP/1.")) Minor (read_bytes (codes "HTTP/1.")) read_minor (Bytes_deterministic (codes "HTTP/1.")) (bytes_read (codes "HTTP/1.")) minor_read text)

pub code_read : (text : List ℕ) → Read Code text (read_code text)
code_read =
    both_read Digit (Then Digit Digit) _ _ Digit_deterministic digit_read
    (both_read Digit Digit _ _ Digit_deterministic digit_read digit_read)

value_sound : (t : List ℕ × LineEnd) (text rest : List ℕ) → Then (Run is_value_byte) Newline t text rest → Text t text rest
value_sound t text rest h = (h.1.0, h.1.1 ∙ ap (λ m. t.0 ++ m) h.2)

value_stops : (end : LineEnd) (rest : List ℕ) → Stops is_value_byte (print_end end ++ rest)
value_stops crlf rest = refl
value_stops lf rest = refl

value_complete : (t : List ℕ × LineEnd) (text rest : List ℕ) → Text t text rest → Then (Run is_value_byte) Newline t text rest
value_complete t text rest h = (print_end t.1 ++ rest, (h.0, h.1, value_stops t.1 rest), refl)

same_read : {A : Type 0} (G H : Piece A) (text : List ℕ) (o : Option (A × List ℕ))
    → ((a : A) (rest : List ℕ) → G a text rest → H a text rest) → ((a : A) (rest : List ℕ) → H a text rest → G a text rest)
    → Read G text o → Read H text o
same_read G H text None sound complete none = λ a rest h. none a rest (complete a rest h)
same_read G H text (Some x) sound complete some = sound x.0 x.1 some

pub value_read : (text : List ℕ) → Read Text text (read_value text)
value_read text =
    same_read (Then (Run is_value_byte) Newline) Text text (read_value text)
    (λ t rest h. value_sound t text rest h) (λ t rest h. value_complete t text rest h)
    (both_read (Run is_value_byte) Newline (read_run is_value_byte) read_end (Run_deterministic is_value_byte) (run_read is_value_byte) end_read text)

spaced : (b : ℕ) (text : List ℕ) → b ≡ 32 → (r : Option (List ℕ) × LineEnd) (rest : List ℕ) → Reason r (b ∷ text) rest → Begins Text text
spaced b text e (Some phrase, end) rest h = ((phrase, end), rest, (h.0, let cut = h.1 in cc))
spaced b text e (None, crlf) rest h = let cut = h.1 in let apart : b ≡ 13 = cc in absurd (omega arith)
spaced b text e (None, lf) rest h = let cut = h.1 in let apart : b ≡ 10 = cc in absurd (omega arith)

unspaced : (b : ℕ) (text : List ℕ) → b ≢ 32 → (r : Option (List ℕ) × LineEnd) (rest : List ℕ) → Reason r (b ∷ text) rest → Begins Newline (b ∷ text)
unspaced b text e (Some phrase, end) rest h = let cut = h.1 in absurd (e cc)
unspaced b text e (None, end) rest h = (end, rest, h.1)

reason_at : (b : ℕ) (text : List ℕ) (t : Bool) → eqb b 32 ≡ t
    → Read Reason (b ∷ text) (cond t (option_map (λ r. ((Some r.0.0, r.0.1), r.1)) (read_value text)) (option_map (λ r. ((None, r.0), r.1)) (read_end (b ∷ text))))
reason_at b text true e =
    let same = eqb-true b 32 e in
    read_as Text Reason (λ t. (Some t.0, t.1)) text (b ∷ text) (read_value text)
    (λ t rest h. (h.0, let cut = h.1 in cc))
    (λ r rest h. spaced b text same r rest h) (value_read text)
reason_at b text false e =
    read_as Newline Reason (λ end. (None, end)) (b ∷ text) (b ∷ text) (read_end (b ∷ text))
    (λ end rest h. (All-nil (λ v. is_value_byte v ≡ true), h))
    (λ r rest h. unspaced b text (eqb-false b 32 e) r rest h) (end_read (b ∷ text))

no_reason : (r : Option (List ℕ) × LineEnd) (rest : List ℕ) → Reason r [] rest → ⊥
no_reason (Some phrase, end) rest h = let cut = h.1 in cc
no_reason (None, end) rest h = no_end end rest h.1

pub reason_read : (text : List ℕ) → Read Reason text (read_reason text)
reason_read [] = no_reason
reason_read (b ∷ text) = reason_at b text (eqb b 32) refl

-- ---- fields

name_from : (text name rest : List ℕ) → Run is_token_byte name text rest → Read (Word is_token_byte 58) text (before_colon (name, rest))
name_from text [] rest run = λ word last h.
    let same = (Run_deterministic is_token_byte).unique word [] text (58 ∷ last) rest (h.1, h.2, colon_ends_token) run in
    let none : length word ≡ 0 = ap length same.0 in
    let some = h.0 in
    omega arith
name_from text (b ∷ name) [] run = absurd run.2
name_from text (b ∷ name) (c ∷ rest) run = at_colon (eqb c 58) refl
  where
    at_colon : (t : Bool) → eqb c 58 ≡ t → Read (Word is_token_byte 58) text (cond t (Some (b ∷ name, rest)) None)
    at_colon true e = (omega arith, run.0, run.1 ∙ ap (λ v. b ∷ (name ++ v ∷ rest)) (eqb-true c 58 e))
    at_colon false e = λ word last h.
        let same = (Run_deterministic is_token_byte).unique word (b ∷ name) text (58 ∷ last) (c ∷ rest) (h.1, h.2, colon_ends_token) run in
        let tails = same.1 in
        eqb-false c 58 e cc

run_begins : (text word last : List ℕ) → Word is_token_byte 58 word text last → Begins (Run is_token_byte) text
run_begins text word last h = (word, 58 ∷ last, (h.1, h.2, colon_ends_token))

named_from : (text : List ℕ) (o : Option (List ℕ × List ℕ)) → Read (Run is_token_byte) text o → Read (Word is_token_byte 58) text (option_and_then before_colon o)
named_from text None none = λ word last h. let x = run_begins text word last h in none x.0 x.1 x.2
named_from text (Some (name, rest)) run = name_from text name rest run

name_read : (text : List ℕ) → Read (Word is_token_byte 58) text (read_name text)
name_read text = named_from text (read_run is_token_byte text) (run_read is_token_byte text)

abbrev Row : Piece (List ℕ × (List ℕ × LineEnd))
Row = Then (Word is_token_byte 58) Text

abbrev field_of : List ℕ × (List ℕ × LineEnd) → Field
field_of t = record { name = t.0; raw = t.1.0; end = t.1.1 }

field_sound : (t : List ℕ × (List ℕ × LineEnd)) (text rest : List ℕ) → Row t text rest → FieldLine (field_of t) text rest
field_sound t text rest h = (
  record { name = (h.1.0, h.1.1); raw = h.2.0 },
  h.1.2 ∙ ap (λ m. t.0 ++ 58 ∷ m) h.2.1 ∙ sym (print_field-append (field_of t) rest),
)

pub field_read : (text : List ℕ) → Read FieldLine text (read_field text)
field_read text =
    read_as Row FieldLine field_of text text (both read_name read_value text)
    (λ t rest h. field_sound t text rest h)
    (λ f rest h. ((f.name, (f.raw, f.end)), rest, FieldLine_parts f text rest h))
    (both_read (Word is_token_byte 58) Text read_name read_value Name_deterministic name_read value_read text)

line_front : (g : Field) (gs : List Field) (last : LineEnd) (text rest : List ℕ) (n : ℕ) → SectionOfAtMost (suc n) (g ∷ gs, last) text rest
    → Then FieldLine (SectionOfAtMost n) (g, (gs, last)) text rest
line_front g gs last text rest n h = (
  (flat_map print_field gs ++ print_end last) ++ rest,
  (
    All-head IsField g gs h.0.0,
    h.0.1 ∙ ap (λ t. t ++ rest) (append_assoc (print_field g) (flat_map print_field gs) (print_end last))
        ∙ append_assoc (print_field g) (flat_map print_field gs ++ print_end last) rest,
  ),
  ((All-tail IsField g gs h.0.0, refl), let few = h.1 in omega arith),
)

-- a section is the empty line, or a field and a section
by_line : (n : ℕ) (text : List ℕ) → ((end : LineEnd) (rest : List ℕ) → Newline end text rest → ⊥)
    → (s : List Field × LineEnd) (rest : List ℕ) → SectionOfAtMost (suc n) s text rest → Begins (Then FieldLine (SectionOfAtMost n)) text
by_line n text none ([], last) rest h = absurd (none last rest h.0.1)
by_line n text none (g ∷ gs, last) rest h = ((g, (gs, last)), rest, line_front g gs last text rest n h)

more_sound : (n : ℕ) (t : Field × (List Field × LineEnd)) (text rest : List ℕ) → Then FieldLine (SectionOfAtMost n) t text rest
    → SectionOfAtMost (suc n) (t.0 ∷ t.1.0, t.1.1) text rest
more_sound n t text rest h =
    let few = h.2.1 in (
      (
        All-cons IsField t.0 t.1.0 h.1.0 h.2.0.0,
        h.1.1 ∙ ap (λ m. print_field t.0 ++ m) h.2.0.1
            ∙ sym (append_assoc (print_field t.0) (flat_map print_field t.1.0 ++ print_end t.1.1) rest)
            ∙ ap (λ m. m ++ rest) (sym (append_assoc (print_field t.0) (flat_map print_field t.1.0) (print_end t.1.1))),
      ),
      omega arith,
    )

section_more : (n : ℕ) (text : List ℕ) (o : Option (LineEnd × List ℕ)) (r : Option ((Field × (List Field × LineEnd)) × List ℕ))
    → Read Newline text o → Read (Then FieldLine (SectionOfAtMost n)) text r
    → Read (SectionOfAtMost (suc n)) text (option_or (option_map (λ r. (([], r.0), r.1)) o) (option_map (λ r. ((r.0.0 ∷ r.0.1.0, r.0.1.1), r.1)) r))
section_more n text (Some end) r x y = ((All-nil IsField, x), omega arith)
section_more n text None r x y =
    read_as (Then FieldLine (SectionOfAtMost n)) (SectionOfAtMost (suc n)) (λ t. (t.0 ∷ t.1.0, t.1.1)) text text r
    (λ t rest h. more_sound n t text rest h) (λ s rest h. by_line n text x s rest h) y

last_line : (text : List ℕ) (s : List Field × LineEnd) (rest : List ℕ) → SectionOfAtMost 0 s text rest → Begins Newline text
last_line text ([], last) rest h = (last, rest, h.0.1)
last_line text (g ∷ gs, last) rest h = let few = h.1 in absurd (omega arith)

pub section_read : (n : ℕ) (text : List ℕ) → Read (SectionOfAtMost n) text (read_section n text)
section_read zero text =
    read_as Newline (SectionOfAtMost 0) (λ end. ([], end)) text text (read_end text)
    (λ end rest h. ((All-nil IsField, h), omega arith)) (λ s rest h. last_line text s rest h) (end_read text)
section_read (suc n) text =
    section_more n text (read_end text) (both read_field (read_section n) text) (end_read text)
    (both_read FieldLine (SectionOfAtMost n) read_field (read_section n) FieldLine_deterministic field_read (section_read n) text)

-- ---- wholes

-- what was read is all of the text
whole_read : {A : Type 0} (G : Piece A) (text : List ℕ) → ((a b : A) (r q : List ℕ) → G a text r → G b text q → r ≡ q)
    → (o : Option (A × List ℕ)) → Read G text o → MatchOption (option_and_then whole o) ((a : A) → G a text [] → ⊥) (λ a. G a text [])
whole_read G text unique None none = λ a h. none a [] h
whole_read G text unique (Some (a, [])) some = some
whole_read G text unique (Some (a, b ∷ rest)) some = λ c h. let apart = unique c a [] (b ∷ rest) h some in cc

MatchOption-map : {A B : Type 0} (f : A → B) (o : Option A) (P : Type 0) (Q : A → Type 0) (R : Type 0) (S : B → Type 0)
    → (P → R) → ((a : A) → Q a → S (f a)) → MatchOption o P Q → MatchOption (option_map f o) R S
MatchOption-map f None P Q R S none some x = none x
MatchOption-map f (Some a) P Q R S none some x = some a x

abbrev Head : ℕ → Piece HeadTree
Head most = Then ResponseStart (SectionOfAtMost most)

any_section : (most : ℕ) (t : HeadTree) (text rest : List ℕ) → Head most t text rest → Then ResponseStart Section t text rest
any_section most t text rest h = (h.0, h.1, h.2.0)

start_read : (text : List ℕ) → Read ResponseStart text (both read_blank (both read_version (both (read_bytes (32 ∷ [])) (both read_code read_reason))) text)
start_read =
    both_read Blank (Then Version (Then (Bytes (32 ∷ [])) (Then Code Reason))) read_blank _ Blank_deterministic blank_read
    (both_read Version (Then (Bytes (32 ∷ [])) (Then Code Reason)) read_version _ Version_deterministic version_read
    (both_read (Bytes (32 ∷ [])) (Then Code Reason) _ _ (Bytes_deterministic (32 ∷ [])) (bytes_read (32 ∷ []))
    (both_read Code Reason read_code read_reason Code_deterministic code_read reason_read)))

head_read : (most : ℕ) (text : List ℕ) → Read (Head most) text (read_head most text)
head_read most = both_read ResponseStart (SectionOfAtMost most) _ (read_section most) ResponseStart_deterministic start_read (section_read most)

one_rest : (most : ℕ) (text : List ℕ) (a b : HeadTree) (r q : List ℕ) → Head most a text r → Head most b text q → r ≡ q
one_rest most text a b r q x y =
    ((Then_deterministic ResponseStart_deterministic Section_deterministic).unique a b text r q (any_section most a text r x) (any_section most b text q y)).1

-- a head in the bytes, with at most so many fields
abbrev HasHead : ℕ → List ℕ → ResponseHead → Type 0
HasHead most bytes h = ReadsResponse bytes h [] × (length h.fields ≤ most)

no_head : (most : ℕ) (bytes : List ℕ) → ((t : HeadTree) → Head most t bytes [] → ⊥) → (h : ResponseHead) → HasHead most bytes h → ⊥
no_head most bytes none h x =
    let pieces = response_pieces bytes h [] x.0 in
    let few : length pieces.0.1.0 ≤ most = subst (λ (k : ResponseHead). length k.fields ≤ most) (sym pieces.1) x.1 in
    none pieces.0 (pieces.2.0, pieces.2.1, (pieces.2.2, few))

head_found : (most : ℕ) (bytes : List ℕ) → MatchOption (option_map head_of (option_and_then whole (read_head most bytes))) ((h : ResponseHead) → HasHead most bytes h → ⊥) (HasHead most bytes)
head_found most bytes =
    MatchOption-map head_of (option_and_then whole (read_head most bytes)) ((t : HeadTree) → Head most t bytes [] → ⊥) (λ t. Head most t bytes [])
    ((h : ResponseHead) → HasHead most bytes h → ⊥) (HasHead most bytes) (no_head most bytes)
    (λ t x. (response_from_pieces bytes t [] (any_section most t bytes [] x), x.2.1))
    (whole_read (Head most) bytes (one_rest most bytes) (read_head most bytes) (head_read most bytes))

-- the bytes are the head that is read, or no head
pub head_in_is : (bytes : List ℕ) → MatchOption (head_in bytes) ((h : ResponseHead) → ReadsHead bytes h → ⊥) (ReadsHead bytes)
unfolding head_in
head_in_is bytes = head_found 100 bytes

-- ---- chunk lines

digits_from : (text : List ℕ) (r : List ℕ × List ℕ) (t u : Bool) → ltb 0 (length r.0) ≡ t → leb (length r.0) 16 ≡ u → Run is_ascii_hexdigit r.0 text r.1
    → Read HexDigits text (cond (t && u) (Some r) None)
digits_from text r true true e d run = (run, ltb-true 0 (length r.0) e, leb-true (length r.0) 16 d)
digits_from text r false u e d run = λ a rest h.
    let same = ap length ((Run_deterministic is_ascii_hexdigit).unique a r.0 text rest r.1 h.0 run).0 in
    let some = h.1 in
    let none = ltb-false 0 (length r.0) e in
    omega arith
digits_from text r true false e d run = λ a rest h.
    let same = ap length ((Run_deterministic is_ascii_hexdigit).unique a r.0 text rest r.1 h.0 run).0 in
    let few = h.2 in
    let many = leb-false (length r.0) 16 d in
    omega arith

digits_of : (text : List ℕ) (o : Option (List ℕ × List ℕ)) → Read (Run is_ascii_hexdigit) text o
    → Read HexDigits text (option_and_then (λ r. cond (ltb 0 (length r.0) && leb (length r.0) 16) (Some r) None) o)
digits_of text None none = λ a rest h. none a rest h.0
digits_of text (Some r) run = digits_from text r (ltb 0 (length r.0)) (leb (length r.0) 16) refl refl run

digits_read : (text : List ℕ) → Read HexDigits text (read_digits text)
digits_read text = digits_of text (read_run is_ascii_hexdigit text) (run_read is_ascii_hexdigit text)

extended : (b : ℕ) (text : List ℕ) → b ≡ 59 → (e : Option (List ℕ)) (rest : List ℕ) → Extension e (b ∷ text) rest
    → Begins (Then (Run is_extension_byte) (Bytes (13 ∷ 10 ∷ []))) text
extended b text same (Some x) rest h = ((x, tt), rest, (13 ∷ 10 ∷ rest, (h.0, let cut = h.1 in cc, refl), refl))
extended b text same None rest h = let cut = h.1 in let apart : b ≡ 13 = cc in absurd (omega arith)

unextended : (b : ℕ) (text : List ℕ) → b ≢ 59 → (e : Option (List ℕ)) (rest : List ℕ) → Extension e (b ∷ text) rest → Begins (Bytes (13 ∷ 10 ∷ [])) (b ∷ text)
unextended b text apart (Some x) rest h = let cut = h.1 in absurd (apart cc)
unextended b text apart None rest h = (tt, rest, h.1)

extension_at : (b : ℕ) (text : List ℕ) (t : Bool) → eqb b 59 ≡ t
    → Read Extension (b ∷ text) (cond t (option_map (λ r. (Some r.0.0, r.1)) (both (read_run is_extension_byte) (read_bytes (13 ∷ 10 ∷ [])) text))
    (option_map (λ r. (None, r.1)) (read_bytes (13 ∷ 10 ∷ []) (b ∷ text))))
extension_at b text true e =
    let same = eqb-true b 59 e in
    read_as (Then (Run is_extension_byte) (Bytes (13 ∷ 10 ∷ []))) Extension (λ t. Some t.0) text (b ∷ text) _
    (λ t rest h. (h.1.0, let run = h.1.1 in let end = h.2 in cc))
    (λ x rest h. extended b text same x rest h)
    (both_read (Run is_extension_byte) (Bytes (13 ∷ 10 ∷ [])) _ _ (Run_deterministic is_extension_byte) (run_read is_extension_byte) (bytes_read (13 ∷ 10 ∷ [])) text)
extension_at b text false e =
    read_as (Bytes (13 ∷ 10 ∷ [])) Extension (λ _. None) (b ∷ text) (b ∷ text) _
    (λ t rest h. (tt, h)) (λ x rest h. unextended b text (eqb-false b 59 e) x rest h) (bytes_read (13 ∷ 10 ∷ []) (b ∷ text))

no_extension : (e : Option (List ℕ)) (rest : List ℕ) → Extension e [] rest → ⊥
no_extension (Some x) rest h = let cut = h.1 in cc
no_extension None rest h = let cut = h.1 in cc

extension_read : (text : List ℕ) → Read Extension text (read_extension text)
extension_read [] = no_extension
extension_read (b ∷ text) = extension_at b text (eqb b 59) refl

chunk_line_read : (text : List ℕ) → Read Chunk text (read_chunk_line text)
chunk_line_read =
    both_read HexDigits (Then (Run is_ows) Extension) read_digits _ HexDigits_deterministic digits_read
    (both_read (Run is_ows) Extension (read_run is_ows) read_extension (Run_deterministic is_ows) (run_read is_ows) extension_read)

-- the bytes are the chunk line that is read, or no chunk line
pub chunk_line_in_is : (bytes : List ℕ) → MatchOption (chunk_line_in bytes) ((l : ChunkLine) → ReadsChunkLine bytes l [] → ⊥) (λ l. ReadsChunkLine bytes l [])
unfolding chunk_line_in
chunk_line_in_is bytes =
    MatchOption-map chunk_line_of (option_and_then whole (read_chunk_line bytes)) ((t : ChunkTree) → Chunk t bytes [] → ⊥) (λ t. Chunk t bytes [])
    ((l : ChunkLine) → ReadsChunkLine bytes l [] → ⊥) (λ l. ReadsChunkLine bytes l [])
    (λ none l x. none (l.digits, (l.pad, l.extension)) (chunk_pieces bytes l [] x))
    (λ t x. chunk_from_pieces bytes t [] x)
    (whole_read Chunk bytes (λ a b r q x y. (Chunk_deterministic.unique a b bytes r q x y).1) (read_chunk_line bytes) (chunk_line_read bytes))
