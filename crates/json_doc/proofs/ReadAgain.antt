-- The text of a document, in either layout, is in the grammar, as that document.
use Rattle.std.proofs.Common.{◌≡◌, ℕ, zero, suc, ◌+◌, ◌*◌, ◌<◌, ◌≤◌, ◌==◌, Bool, true, false, IsTrue, replicate, List, [], ◌∷◌, ◌++◌, map, length, refl, sym, ap, ◌∙◌, subst, arith, append_assoc, append-nil}
use Rattle.std.specs.Prelude.{codes, encode_utf8_all}
use Rattle.std.specs.List.{AllByRecursion}
use Rattle.std.proofs.lemmas.Bool.Decides.{nat_tests}
use Rattle.std.proofs.lemmas.Str.{encodes-append}
use Rattle.json_doc.specs.declared.doc.Doc.{Doc, roll-Doc, map-Doc}
use Rattle.json_doc.specs.declared.doc.Doc.TheVariants.{Null, Flag, Number, Str, Items, Fields, rolls-Null, rolls-Flag, rolls-Number, rolls-Str, rolls-Items, rolls-Fields}
use Rattle.json_doc.specs.declared.doc.Doc.TheOpen.{Doc-F}
use Rattle.json_doc.specs.declared.doc.Doc.TheFolds.{ind-Doc}
use Rattle.json_doc.specs.declared.decimal.Decimal.{Decimal}
use Rattle.json_doc.specs.declared.layout.Layout.{Layout}
use Rattle.json_doc.specs.declared.layout.Layout.TheVariants.{Compact, Indented}
use Rattle.texts.specs.declared.pairs.Pair.{Pair}
use Rattle.json_doc.specs.Documents.{greatest, depth_of, IsProper}
use Rattle.texts.specs.Characters.{IsText}
use Rattle.json_doc.specs.Escapes.{quoted}
use Rattle.json_doc.specs.Grammar.{is_blank, Structural, String, put_all, Value, Values, Members, Member, Ws, Reads}
use Rattle.json_doc.specs.Indented.{line}
use Rattle.texts.specs.Keys.{keys, IsDistinct}
use Rattle.json_doc.specs.Layouts.{text_at, before_part, after_parts, parts_text, field_text}
use Rattle.json_doc.proofs.Gathering.{IsNew-before, put_last}
use Rattle.json_doc.proofs.Layouts.{text_at-Null, text_at-Flag, text_at-Number, text_at-Str, text_at-Items, text_at-Fields, rest_of_parts, parts_text-whole}
use Rattle.json_doc.proofs.NumbersWritten.{decimal_text-spells, decimal_text-value, decimal_text-IsLow}
use Rattle.json_doc.proofs.ProperDocuments.{text-IsText, items-IsProper, fields-IsProper, keys-IsProper, depth-Items, depth-Fields}
use Rattle.json_doc.proofs.TextsWritten.{IsLow, low_bytes, split_bytes, low_front, quoted-String}

-- Blanks.

abbrev AreBlank : List ℕ → Type 0
AreBlank bs = AllByRecursion (λ b. IsTrue (is_blank b)) bs

blank_low : (b : ℕ) → IsTrue (is_blank b) → b < 128
blank_low b blank = grind (arith, nat_tests)

blanks_low : (bs : List ℕ) → AreBlank bs → IsLow bs
blanks_low [] blank = tt
blanks_low (b ∷ bs) blank = (blank_low b blank.0, blanks_low bs blank.1)

spaces_blank : (n : ℕ) → AreBlank (replicate n 32)
spaces_blank zero = tt
spaces_blank (suc n) = (refl, spaces_blank n)

line_blank : (level : ℕ) → AreBlank (line level)
line_blank level = (refl, spaces_blank (4 * level))

-- What a layout writes round the parts.

first_blank : (layout : Layout) (level : ℕ) → AreBlank (before_part layout level true)
first_blank Compact level = tt
first_blank Indented level = line_blank level

last_blank : (layout : Layout) (level : ℕ) → AreBlank (after_parts layout level false)
last_blank Compact level = tt
last_blank Indented level = line_blank level

-- the blanks behind a `,`
abbrev gap : Layout → ℕ → List ℕ
gap Compact level = 32 ∷ []
gap Indented level = line level

gap_blank : (layout : Layout) (level : ℕ) → AreBlank (gap layout level)
gap_blank Compact level = (refl, tt)
gap_blank Indented level = line_blank level

comma_gap : (layout : Layout) (level : ℕ) → before_part layout level false ≡ 44 ∷ gap layout level
comma_gap Compact level = refl
comma_gap Indented level = refl

no_parts : (layout : Layout) (level : ℕ) → parts_text layout level [] ≡ []
no_parts Compact level = refl
no_parts Indented level = refl

-- a mark with blanks round it
mark : (c : ℕ) (before after rest : List ℕ) → AreBlank before → AreBlank after → Structural c (before ++ c ∷ (after ++ rest)) rest
mark c before after rest blank blank' = (after ++ rest, (before, blank, refl), (after, blank', refl))

-- a mark with blanks only before it, or only behind it
closing_mark : (c : ℕ) (before rest : List ℕ) → AreBlank before → Structural c (before ++ c ∷ rest) rest
closing_mark c before rest blank = mark c before [] rest blank tt

opening_mark : (c : ℕ) (after rest : List ℕ) → AreBlank after → Structural c (c ∷ after ++ rest) rest
opening_mark c after rest blank = mark c [] after rest tt blank

-- The bytes of texts of several parts.

-- the first of some parts, and the others with what stands before each
abbrev parts_from : Layout → ℕ → List ℕ → List (List ℕ) → List ℕ
parts_from layout level t ts = t ++ rest_of_parts layout level false ts

one_part : (layout : Layout) (level : ℕ) (t rest : List ℕ) → encode_utf8_all (parts_from layout level t []) ++ rest ≡ encode_utf8_all t ++ rest
one_part layout level t rest = ap (λ cs. encode_utf8_all cs ++ rest) (append-nil t)

more_parts : (layout : Layout) (level : ℕ) (t u : List ℕ) (us : List (List ℕ)) (rest : List ℕ) → encode_utf8_all (parts_from layout level t (u ∷ us)) ++ rest
    ≡ encode_utf8_all t ++ (44 ∷ gap layout level ++ (encode_utf8_all (parts_from layout level u us) ++ rest))
more_parts layout level t u us rest =
    let others : List ℕ = parts_from layout level u us in
    let regrouped : rest_of_parts layout level false (u ∷ us) ≡ 44 ∷ gap layout level ++ others
    = append_assoc (before_part layout level false) u (rest_of_parts layout level false us) ∙ ap (λ before. before ++ others) (comma_gap layout level) in
    let low : IsLow (44 ∷ gap layout level) = (omega arith, blanks_low _ (gap_blank layout level)) in
    ap (λ cs. encode_utf8_all (t ++ cs) ++ rest) regrouped ∙ split_bytes t (44 ∷ gap layout level ++ others) rest
    ∙ ap (λ bs. encode_utf8_all t ++ bs) (low_front (44 ∷ gap layout level) others rest low)

bracketed_none : (layout : Layout) (level opening closing : ℕ) (rest : List ℕ) → IsLow (opening ∷ closing ∷ [])
    → encode_utf8_all (opening ∷ parts_text layout level [] ++ closing ∷ []) ++ rest ≡ opening ∷ closing ∷ rest
bracketed_none layout level opening closing rest low =
    ap (λ cs. encode_utf8_all (opening ∷ cs ++ closing ∷ []) ++ rest) (no_parts layout level) ∙ ap (λ bs. bs ++ rest) (low_bytes (opening ∷ closing ∷ []) low)

-- some parts, with what stands before the first and behind the last
parts_whole : (layout : Layout) (level : ℕ) (t : List ℕ) (ts : List (List ℕ))
    → parts_text layout level (t ∷ ts) ≡ (before_part layout (level + 1) true ++ parts_from layout (level + 1) t ts) ++ after_parts layout level false
parts_whole layout level t ts =
    let some : (length (t ∷ ts) == 0) ≡ false = grind (arith, nat_tests) in
    let inside : List ℕ = rest_of_parts layout (level + 1) true (t ∷ ts) in
    sym (parts_text-whole layout level (t ∷ ts)) ∙ ap (λ is_empty. inside ++ after_parts layout level is_empty) some
    ∙ ap (λ cs. cs ++ after_parts layout level false) (append_assoc (before_part layout (level + 1) true) t (rest_of_parts layout (level + 1) false ts))

bracketed_parts : (layout : Layout) (level opening closing : ℕ) (t : List ℕ) (ts : List (List ℕ)) (rest : List ℕ) → IsLow (opening ∷ closing ∷ [])
    → encode_utf8_all (opening ∷ parts_text layout level (t ∷ ts) ++ closing ∷ []) ++ rest
    ≡ opening ∷ before_part layout (level + 1) true ++ (encode_utf8_all (parts_from layout (level + 1) t ts) ++ (after_parts layout level false ++ closing ∷ rest))
bracketed_parts layout level opening closing t ts rest low =
    let first : List ℕ = before_part layout (level + 1) true in
    let parts : List ℕ = parts_from layout (level + 1) t ts in
    let last : List ℕ = after_parts layout level false in
    let regrouped : parts_text layout level (t ∷ ts) ++ closing ∷ [] ≡ first ++ (parts ++ (last ++ closing ∷ []))
    = ap (λ cs. cs ++ closing ∷ []) (parts_whole layout level t ts) ∙ append_assoc (first ++ parts) last (closing ∷ []) ∙ append_assoc first parts (last ++ closing ∷ []) in
    let closed : encode_utf8_all (last ++ closing ∷ []) ++ rest ≡ last ++ closing ∷ rest
    = low_front last (closing ∷ []) rest (blanks_low last (last_blank layout level)) ∙ ap (λ bs. last ++ (bs ++ rest)) (low_bytes (closing ∷ []) low.1) in
    ap (λ cs. encode_utf8_all (opening ∷ cs) ++ rest) regrouped
    ∙ low_front (opening ∷ []) (first ++ (parts ++ (last ++ closing ∷ []))) rest (low.0, tt)
    ∙ ap (λ bs. opening ∷ bs) (low_front first (parts ++ (last ++ closing ∷ [])) rest (blanks_low first (first_blank layout (level + 1))))
    ∙ ap (λ bs. opening ∷ first ++ bs) (split_bytes parts (last ++ closing ∷ []) rest ∙ ap (λ bs. encode_utf8_all parts ++ bs) closed)

-- One document.

-- its text at each level is a value of the grammar, whatever is behind it
record IsReadAgain (layout : Layout) (d : Doc) : Type 0 where
  value : (level n : ℕ) (rest : List ℕ) → depth_of d + n ≤ 100 → Value n (encode_utf8_all (text_at layout level d) ++ rest) d rest

-- a text in ASCII is its own bytes
low_text : (layout : Layout) (level : ℕ) (d : Doc) (cs rest : List ℕ) → text_at layout level d ≡ cs → IsLow cs → encode_utf8_all (text_at layout level d) ++ rest ≡ cs ++ rest
low_text layout level d cs rest is low = ap (λ bs. bs ++ rest) (ap encode_utf8_all is ∙ low_bytes cs low)

null_again : (layout : Layout) → IsReadAgain layout Null
null_again layout = record {
  value = λ level n rest deep.
      let low : IsLow (codes "null") = (omega arith, (omega arith, (omega arith, (omega arith, tt)))) in
      Value.null_name (low_text layout level Null _ rest (text_at-Null layout level) low);
}

flag_again : (layout : Layout) (flag : Bool) → IsReadAgain layout (Flag flag)
flag_again layout true = record {
  value = λ level n rest deep.
      let low : IsLow (codes "true") = (omega arith, (omega arith, (omega arith, (omega arith, tt)))) in
      Value.true_name (low_text layout level (Flag true) _ rest (text_at-Flag layout level true) low);
}
flag_again layout false = record {
  value = λ level n rest deep.
      let low : IsLow (codes "false") = (omega arith, (omega arith, (omega arith, (omega arith, (omega arith, tt))))) in
      Value.false_name (low_text layout level (Flag false) _ rest (text_at-Flag layout level false) low);
}

number_again : (layout : Layout) (m : Decimal) → IsReadAgain layout (Number m)
number_again layout m = record {
  value = λ level n rest deep.
      Value.number (decimal_text-spells m) (decimal_text-value m) (low_text layout level (Number m) _ rest (text_at-Number layout level m) (decimal_text-IsLow m));
}

string_again : (layout : Layout) (t : List ℕ) → IsText t → IsReadAgain layout (Str t)
string_again layout t text = record {
  value = λ level n rest deep.
      Value.string (subst (λ cs. String (encode_utf8_all cs ++ rest) t rest) (sym (text_at-Str layout level t)) (quoted-String layout t rest text));
}

-- Several values.

values_again : (layout : Layout) (level : ℕ) (d : Doc) (ds : List Doc) → AllByRecursion (IsReadAgain layout) (d ∷ ds) → (n : ℕ) (rest : List ℕ) → greatest (map depth_of (d ∷ ds)) + n ≤ 100
    → Values n (encode_utf8_all (parts_from layout level (text_at layout level d) (map (text_at layout level) ds)) ++ rest) (d ∷ ds) rest
values_again layout level d [] again n rest deep =
    subst (λ bs. Values n bs (d ∷ []) rest) (sym (one_part layout level (text_at layout level d) rest)) (Values.one_value (again.0.value level n rest (omega arith)))
values_again layout level d (e ∷ es) again n rest deep =
    let ts : List (List ℕ) = map (text_at layout level) es in
    let others : List ℕ = encode_utf8_all (parts_from layout level (text_at layout level e) ts) ++ rest in
    let first = again.0.value level n (44 ∷ gap layout level ++ others) (omega arith) in
    let more = Values.more_values first (opening_mark 44 (gap layout level) others (gap_blank layout level)) (values_again layout level e es again.1 n rest (omega arith)) in
    subst (λ bs. Values n bs (d ∷ e ∷ es) rest) (sym (more_parts layout level (text_at layout level d) (text_at layout level e) ts rest)) more

items_value : (layout : Layout) (level : ℕ) (ds : List Doc) → AllByRecursion (IsReadAgain layout) ds → (n : ℕ) (rest : List ℕ) → greatest (map depth_of ds) + 1 + n ≤ 100
    → Value n (encode_utf8_all (91 ∷ parts_text layout level (map (text_at layout (level + 1)) ds) ++ 93 ∷ []) ++ rest) (Items ds) rest
items_value layout level [] again n rest deep =
    subst (λ bs. Value n bs (Items []) rest) (sym (bracketed_none layout level 91 93 rest (omega arith, (omega arith, tt))))
    (Value.empty_array (omega arith) (opening_mark 91 [] (93 ∷ rest) tt) (closing_mark 93 [] rest tt))
items_value layout level (d ∷ ds) again n rest deep =
    let last : List ℕ = after_parts layout level false ++ 93 ∷ rest in
    let values = values_again layout (level + 1) d ds again (n + 1) last (omega arith) in
    subst (λ bs. Value n bs (Items (d ∷ ds)) rest) (sym (bracketed_parts layout level 91 93 (text_at layout (level + 1) d) (map (text_at layout (level + 1)) ds) rest (omega arith, (omega arith, tt))))
    (Value.array (omega arith) (opening_mark 91 (before_part layout (level + 1) true) _ (first_blank layout (level + 1))) values (closing_mark 93 (after_parts layout level false) rest (last_blank layout level)))

items_again : (layout : Layout) (ds : List Doc) → AllByRecursion (IsReadAgain layout) ds → IsReadAgain layout (Items ds)
items_again layout ds again = record {
  value = λ level n rest deep.
      subst (λ cs. Value n (encode_utf8_all cs ++ rest) (Items ds) rest) (sym (text_at-Items layout level ds)) (items_value layout level ds again n rest (omega (arith, depth-Items ds)));
}

-- Several members.

-- the key is a text, and the value is read again
abbrev IsMember : Layout → Pair Doc → Type 0
IsMember layout p = IsText p.key × IsReadAgain layout p.value

member_again : (layout : Layout) (level : ℕ) (p : Pair Doc) → IsMember layout p → (n : ℕ) (rest : List ℕ) → depth_of p.value + n ≤ 100
    → Member n (encode_utf8_all (field_text layout level p) ++ rest) p rest
member_again layout level p is n rest deep =
    let key : List ℕ = quoted layout p.key in
    let value : List ℕ = text_at layout level p.value in
    let behind : List ℕ = encode_utf8_all value ++ rest in
    let colon : IsLow (codes ": ") = (omega arith, (omega arith, tt)) in
    let bytes : encode_utf8_all (field_text layout level p) ++ rest ≡ encode_utf8_all key ++ (58 ∷ 32 ∷ behind)
    = ap (λ cs. encode_utf8_all cs ++ rest) (append_assoc key (codes ": ") value) ∙ split_bytes key (codes ": " ++ value) rest
    ∙ ap (λ bs. encode_utf8_all key ++ bs) (low_front (codes ": ") value rest colon) in
    subst (λ bs. Member n bs p rest) (sym bytes)
    (Member.member (quoted-String layout p.key (58 ∷ 32 ∷ behind) is.0) (opening_mark 58 (32 ∷ []) behind (refl, tt)) (is.1.value level n rest deep))

members_again : (layout : Layout) (level : ℕ) (p : Pair Doc) (ps : List (Pair Doc)) → AllByRecursion (IsMember layout) (p ∷ ps) → (n : ℕ) (rest : List ℕ) → greatest (map (λ q. depth_of q.value) (p ∷ ps)) + n ≤ 100
    → Members n (encode_utf8_all (parts_from layout level (field_text layout level p) (map (field_text layout level) ps)) ++ rest) (p ∷ ps) rest
members_again layout level p [] again n rest deep =
    subst (λ bs. Members n bs (p ∷ []) rest) (sym (one_part layout level (field_text layout level p) rest)) (Members.one_member (member_again layout level p again.0 n rest (omega arith)))
members_again layout level p (q ∷ qs) again n rest deep =
    let ts : List (List ℕ) = map (field_text layout level) qs in
    let others : List ℕ = encode_utf8_all (parts_from layout level (field_text layout level q) ts) ++ rest in
    let first = member_again layout level p again.0 n (44 ∷ gap layout level ++ others) (omega arith) in
    let more = Members.more_members first (opening_mark 44 (gap layout level) others (gap_blank layout level)) (members_again layout level q qs again.1 n rest (omega arith)) in
    subst (λ bs. Members n bs (p ∷ q ∷ qs) rest) (sym (more_parts layout level (field_text layout level p) (field_text layout level q) ts rest)) more

-- pairs with distinct keys, put one after another, are those pairs
put_all-front : (qs ps : List (Pair Doc)) → IsDistinct (keys (qs ++ ps)) → put_all qs ps ≡ qs ++ ps
put_all-front qs [] distinct = sym (append-nil qs)
put_all-front qs (p ∷ ps) distinct =
    let regrouped : (qs ++ p ∷ []) ++ ps ≡ qs ++ p ∷ ps = append_assoc qs (p ∷ []) ps in
    ap (λ rs. put_all rs ps) (put_last qs p.key p.value (IsNew-before qs ps p distinct))
    ∙ put_all-front (qs ++ p ∷ []) ps (subst (λ rs. IsDistinct (keys rs)) (sym regrouped) distinct) ∙ regrouped

put_all-distinct : (ps : List (Pair Doc)) → IsDistinct (keys ps) → put_all [] ps ≡ ps
put_all-distinct ps distinct = put_all-front [] ps distinct

fields_value : (layout : Layout) (level : ℕ) (ps : List (Pair Doc)) → AllByRecursion (IsMember layout) ps → IsDistinct (keys ps) → (n : ℕ) (rest : List ℕ) → greatest (map (λ p. depth_of p.value) ps) + 1 + n ≤ 100
    → Value n (encode_utf8_all (123 ∷ parts_text layout level (map (field_text layout (level + 1)) ps) ++ 125 ∷ []) ++ rest) (Fields ps) rest
fields_value layout level [] again distinct n rest deep =
    subst (λ bs. Value n bs (Fields []) rest) (sym (bracketed_none layout level 123 125 rest (omega arith, (omega arith, tt))))
    (Value.empty_object (omega arith) (opening_mark 123 [] (125 ∷ rest) tt) (closing_mark 125 [] rest tt))
fields_value layout level (p ∷ ps) again distinct n rest deep =
    let last : List ℕ = after_parts layout level false ++ 125 ∷ rest in
    let members = members_again layout (level + 1) p ps again (n + 1) last (omega arith) in
    let whole = Value.object (omega arith) (opening_mark 123 (before_part layout (level + 1) true) _ (first_blank layout (level + 1))) members (closing_mark 125 (after_parts layout level false) rest (last_blank layout level)) in
    let bytes = bracketed_parts layout level 123 125 (field_text layout (level + 1) p) (map (field_text layout (level + 1)) ps) rest (omega arith, (omega arith, tt)) in
    let inside : List ℕ = parts_text layout level (map (field_text layout (level + 1)) (p ∷ ps)) in
    subst (λ qs. Value n (encode_utf8_all (123 ∷ inside ++ 125 ∷ []) ++ rest) (Fields qs) rest) (put_all-distinct (p ∷ ps) distinct)
    (subst (λ bs. Value n bs (Fields (put_all [] (p ∷ ps))) rest) (sym bytes) whole)

fields_again : (layout : Layout) (ps : List (Pair Doc)) → AllByRecursion (IsMember layout) ps → IsDistinct (keys ps) → IsReadAgain layout (Fields ps)
fields_again layout ps again distinct = record {
  value = λ level n rest deep.
      subst (λ cs. Value n (encode_utf8_all cs ++ rest) (Fields ps) rest) (sym (text_at-Fields layout level ps)) (fields_value layout level ps again distinct n rest (omega (arith, depth-Fields ps)));
}

-- Every document.

abbrev Again : Layout → Doc → Type 0
Again layout d = IsProper d → IsReadAgain layout d

abbrev Seen : Layout → Type 0
Seen layout = (d : Doc) × Again layout d

all_again : (layout : Layout) (es : List (Seen layout)) → AllByRecursion IsProper (map (λ e. e.0) es) → AllByRecursion (IsReadAgain layout) (map (λ e. e.0) es)
all_again layout [] proper = tt
all_again layout (e ∷ es) proper = (e.1 proper.0, all_again layout es proper.1)

plain : (layout : Layout) → Pair (Seen layout) → Pair Doc
plain layout p = record { key = p.key; value = p.value.0 }

all_members : (layout : Layout) (es : List (Pair (Seen layout))) → AllByRecursion (λ p. IsProper p.value) (map (plain layout) es) → AllByRecursion IsText (keys (map (plain layout) es))
    → AllByRecursion (IsMember layout) (map (plain layout) es)
unfolding plain
all_members layout [] proper text = tt
all_members layout (e ∷ es) proper text = ((text.0, e.value.1 proper.0), all_members layout es proper.1 text.1)

layer_again : (layout : Layout) (y : Doc-F (Seen layout)) → Again layout (roll-Doc (map-Doc (Seen layout) Doc (λ e. e.0) y))
unfolding plain
layer_again layout Doc-F.Null = subst (Again layout) (sym rolls-Null) (λ proper. null_again layout)
layer_again layout (Doc-F.Flag flag) = subst (Again layout) (sym (rolls-Flag flag)) (λ proper. flag_again layout flag)
layer_again layout (Doc-F.Number n) = subst (Again layout) (sym (rolls-Number n)) (λ proper. number_again layout n)
layer_again layout (Doc-F.Str t) = subst (Again layout) (sym (rolls-Str t)) (λ proper. string_again layout t (text-IsText t proper))
layer_again layout (Doc-F.Items es) =
    let ds : List Doc = map (λ e. e.0) es in
    subst (Again layout) (sym (rolls-Items ds)) (λ proper. items_again layout ds (all_again layout es (items-IsProper ds proper)))
layer_again layout (Doc-F.Fields es) =
    let ps : List (Pair Doc) = map (plain layout) es in
    subst (Again layout) (sym (rolls-Fields ps)) (λ proper.
    let keyed = keys-IsProper ps proper in
    fields_again layout ps (all_members layout es (fields-IsProper ps proper) keyed.0) keyed.1)

again : (layout : Layout) (d : Doc) → Again layout d
again layout = ind-Doc (Again layout) (λ x y is. subst (λ z. Again layout (roll-Doc z)) is (layer_again layout y))

-- with blanks behind it, as a line end, it is too
pub text_reads-blanks_behind : (layout : Layout) (d : Doc) (blanks : List ℕ) → IsProper d → depth_of d ≤ 100 → Ws blanks [] → Reads (encode_utf8_all (text_at layout 0 d ++ blanks)) d
text_reads-blanks_behind layout d blanks proper deep ws =
    let text : List ℕ = text_at layout 0 d in
    let low : IsLow blanks = subst IsLow (sym (ws.2 ∙ append-nil ws.0)) (blanks_low ws.0 ws.1) in
    let bytes : encode_utf8_all (text ++ blanks) ≡ encode_utf8_all text ++ blanks = encodes-append text blanks ∙ ap (λ bs. encode_utf8_all text ++ bs) (low_bytes blanks low) in
    let value = (again layout d proper).value 0 0 blanks (omega arith) in
    (encode_utf8_all (text ++ blanks), blanks, ([], tt, refl), subst (λ bs. Value 0 bs d blanks) (sym bytes) value, ws)

pub text_reads : (layout : Layout) (d : Doc) → IsProper d → depth_of d ≤ 100 → Reads (encode_utf8_all (text_at layout 0 d)) d
text_reads layout d proper deep =
    subst (λ cs. Reads (encode_utf8_all cs) d) (append-nil (text_at layout 0 d)) (text_reads-blanks_behind layout d [] proper deep ([], tt, refl))
