-- The text of a document at each variant, and of the parts between two brackets.
use Rattle.std.proofs.Common.{◌≡◌, ℕ, ◌+◌, ◌==◌, Bool, true, false, List, [], ◌∷◌, ◌++◌, map, drop, length, ◌≤◌, refl, sym, ap, ◌∙◌, arith, rules, append_assoc, append-nil}
use Rattle.std.specs.Prelude.{codes}
use Rattle.std.specs.List.{flat_map}
use Rattle.std.proofs.lemmas.Bool.Decides.{nat_tests}
use Rattle.std.proofs.lemmas.List.{at_drop_all, length-map}
use Rattle.json_doc.specs.declared.doc.Doc.{Doc, the_lemmas}
use Rattle.json_doc.specs.declared.doc.Doc.TheVariants.{Null, Flag, Number, Str, Items, Fields, rolls-Items, rolls-Fields}
use Rattle.json_doc.specs.declared.doc.Doc.TheOpen.{Doc-F}
use Rattle.json_doc.specs.declared.doc.Doc.TheFolds.{fold-roll-Doc}
use Rattle.json_doc.specs.declared.layout.Layout.{Layout}
use Rattle.json_doc.specs.declared.layout.Layout.TheVariants.{Compact, Indented}
use Rattle.texts.specs.declared.pairs.Pair.{Pair}
use Rattle.json_doc.specs.Compact.{compact_of, compact_step, flag_text, compact_field}
use Rattle.json_doc.specs.declared.decimal.Decimal.{Decimal}
use Rattle.json_doc.specs.DecimalText.{decimal_text}
use Rattle.json_doc.specs.Escapes.{quoted}
use Rattle.json_doc.specs.Indented.{indented_at, indented_step, indented_field, lines, line}
use Rattle.texts.specs.Joined.{joined}
use Rattle.json_doc.specs.Layouts.{text_at, before_part, after_parts, parts_text, field_text}

pub text_at-Null : (layout : Layout) (level : ℕ) → text_at layout level Null ≡ codes "null"
text_at-Null Compact level = search (rules, the_lemmas)
text_at-Null Indented level = search (rules, the_lemmas)

pub text_at-Flag : (layout : Layout) (level : ℕ) (flag : Bool) → text_at layout level (Flag flag) ≡ flag_text flag
text_at-Flag Compact level flag = search (rules, the_lemmas)
text_at-Flag Indented level flag = search (rules, the_lemmas)

pub text_at-Number : (layout : Layout) (level : ℕ) (n : Decimal) → text_at layout level (Number n) ≡ decimal_text n
text_at-Number Compact level n = search (rules, the_lemmas)
text_at-Number Indented level n = search (rules, the_lemmas)

pub text_at-Str : (layout : Layout) (level : ℕ) (t : List ℕ) → text_at layout level (Str t) ≡ quoted layout t
text_at-Str Compact level t = search (rules, the_lemmas)
text_at-Str Indented level t = search (rules, the_lemmas)

compact-Items : (ds : List Doc) → compact_of (Items ds) ≡ 91 ∷ joined (codes ", ") (map compact_of ds) ++ 93 ∷ []
compact-Items ds = search (rules, the_lemmas)

at_level : (ds : List Doc) (level : ℕ) → map (λ t. t level) (map indented_at ds) ≡ map (λ d. indented_at d level) ds
at_level [] level = refl
at_level (d ∷ ds) level = ap (λ ts. indented_at d level ∷ ts) (at_level ds level)

indented-Items : (ds : List Doc) (level : ℕ) → indented_at (Items ds) level ≡ 91 ∷ lines level (map (λ d. indented_at d (level + 1)) ds) ++ 93 ∷ []
indented-Items ds level =
    ap (λ d. indented_at d level) (sym (rolls-Items ds)) ∙ ap (λ f. f level) (fold-roll-Doc (ℕ → List ℕ) indented_step (Doc-F.Items ds))
    ∙ ap (λ ts. 91 ∷ lines level ts ++ 93 ∷ []) (at_level ds (level + 1))

-- a field with the text of its value
abbrev compact_value : Pair Doc → Pair (List ℕ)
compact_value p = record { key = p.key; value = compact_of p.value }

abbrev indented_value : Pair Doc → Pair (ℕ → List ℕ)
indented_value p = record { key = p.key; value = indented_at p.value }

compact_fields : (ps : List (Pair Doc)) → map compact_field (map compact_value ps) ≡ map (field_text Compact 0) ps
compact_fields [] = refl
compact_fields (p ∷ ps) = ap (λ ts. field_text Compact 0 p ∷ ts) (compact_fields ps)

indented_fields : (ps : List (Pair Doc)) (level : ℕ) → map (indented_field level) (map indented_value ps) ≡ map (field_text Indented level) ps
indented_fields [] level = refl
indented_fields (p ∷ ps) level = ap (λ ts. field_text Indented level p ∷ ts) (indented_fields ps level)

compact-Fields : (ps : List (Pair Doc)) → compact_of (Fields ps) ≡ 123 ∷ joined (codes ", ") (map (field_text Compact 0) ps) ++ 125 ∷ []
compact-Fields ps =
    ap compact_of (sym (rolls-Fields ps)) ∙ fold-roll-Doc (List ℕ) compact_step (Doc-F.Fields ps)
    ∙ ap (λ ts. 123 ∷ joined (codes ", ") ts ++ 125 ∷ []) (compact_fields ps)

indented-Fields : (ps : List (Pair Doc)) (level : ℕ) → indented_at (Fields ps) level ≡ 123 ∷ lines level (map (field_text Indented (level + 1)) ps) ++ 125 ∷ []
indented-Fields ps level =
    ap (λ d. indented_at d level) (sym (rolls-Fields ps)) ∙ ap (λ f. f level) (fold-roll-Doc (ℕ → List ℕ) indented_step (Doc-F.Fields ps))
    ∙ ap (λ ts. 123 ∷ lines level ts ++ 125 ∷ []) (indented_fields ps (level + 1))

pub text_at-Items : (layout : Layout) (level : ℕ) (ds : List Doc) → text_at layout level (Items ds) ≡ 91 ∷ parts_text layout level (map (text_at layout (level + 1)) ds) ++ 93 ∷ []
text_at-Items Compact level ds = compact-Items ds
text_at-Items Indented level ds = indented-Items ds level

pub text_at-Fields : (layout : Layout) (level : ℕ) (ps : List (Pair Doc)) → text_at layout level (Fields ps) ≡ 123 ∷ parts_text layout level (map (field_text layout (level + 1)) ps) ++ 125 ∷ []
text_at-Fields Compact level ps = compact-Fields ps
text_at-Fields Indented level ps = indented-Fields ps level

-- the parts that are left, each with what stands before it
abbrev pub rest_of_parts : Layout → ℕ → Bool → List (List ℕ) → List ℕ
rest_of_parts layout level is_first [] = []
rest_of_parts layout level is_first (t ∷ ts) = before_part layout level is_first ++ t ++ rest_of_parts layout level false ts

rest-others : (layout : Layout) (level : ℕ) (ts : List (List ℕ)) → rest_of_parts layout level false ts ≡ flat_map (λ t. before_part layout level false ++ t) ts
rest-others layout level [] = refl
rest-others layout level (t ∷ ts) = ap (λ rest. before_part layout level false ++ t ++ rest) (rest-others layout level ts)

-- all parts, and what stands behind them
pub parts_text-whole : (layout : Layout) (level : ℕ) (ts : List (List ℕ)) → rest_of_parts layout (level + 1) true ts ++ after_parts layout level (length ts == 0) ≡ parts_text layout level ts
parts_text-whole Compact level [] = refl
parts_text-whole Compact level (t ∷ ts) = rw (rest-others Compact (level + 1) ts, append-nil)
parts_text-whole Indented level [] = refl
parts_text-whole Indented level (t ∷ ts) =
    let some : (length (t ∷ ts) == 0) ≡ false = grind (arith, nat_tests) in
    rw (some, rest-others Indented (level + 1) ts)
    (ap (λ cs. cs ++ line level) (append_assoc (line (level + 1)) t (flat_map (λ u. 44 ∷ line (level + 1) ++ u) ts)))

-- a text between two brackets, written after what stood there
pub bracketed : (out out' out'' parts : List ℕ) (opening closing : ℕ) → out' ≡ out ++ opening ∷ [] → out'' ≡ out' ++ parts → out'' ++ closing ∷ [] ≡ out ++ (opening ∷ parts ++ closing ∷ [])
bracketed out out' out'' parts opening closing e e' = rw (e', e) (simp append_assoc)

-- no part is left
pub parts_text-end : {T : Type 0} (layout : Layout) (level inside i : ℕ) (is_first is_empty : Bool) (text : ℕ → T → List ℕ) (xs : List T) (out out' : List ℕ)
    → inside ≡ level + 1 → length xs ≤ i → is_empty ≡ (length xs == 0)
    → out' ++ rest_of_parts layout inside is_first (map (text inside) (drop i xs)) ≡ out ++ rest_of_parts layout inside true (map (text inside) xs)
    → out' ++ after_parts layout level is_empty ≡ out ++ parts_text layout level (map (text (level + 1)) xs)
parts_text-end layout level inside i is_first is_empty text xs out out' deeper past none written =
    let left = at_drop_all (λ ys. out' ++ rest_of_parts layout inside is_first (map (text inside) ys)) xs i past in
    let all : out' ≡ out ++ rest_of_parts layout (level + 1) true (map (text (level + 1)) xs) =
    sym (append-nil out') ∙ sym left ∙ written ∙ ap (λ n. out ++ rest_of_parts layout n true (map (text n) xs)) deeper in
    let ts = map (text (level + 1)) xs in
    let count = length-map xs (text (level + 1)) in
    let whole = parts_text-whole layout level ts in
    rw (all, none, ← count, append_assoc, whole)
