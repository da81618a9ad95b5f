-- The lines of a document hold the texts of its scalars, each once.
use Rattle.std.proofs.Common.{◌≡◌, ℕ, Bool, true, false, if◌then◌else◌, List, [], ◌∷◌, ◌++◌, map, Option, None, Some, refl, sym, ap, ◌∙◌, subst, append_assoc, append-nil}
use Rattle.std.specs.Prelude.{encode_utf8_all, is_some, option_to_list, IsPermutation}
use Rattle.std.specs.List.{AllByRecursion, flat_map, list_any}
use Rattle.std.specs.Str.{chars}
use Rattle.std.specs.Cmp.Derive.{both_true}
use Rattle.std.proofs.Math.Utf8.{scalars}
use Rattle.std.proofs.lemmas.Str.{chars-encodes}
use Rattle.std.proofs.lemmas.List.Sorted.{IsPermutation-trans}
use Rattle.json_doc.specs.declared.doc.Doc.{Doc, out-Doc, map-Doc, roll-Doc}
use Rattle.json_doc.specs.declared.doc.Doc.TheOpen.{Doc-F}
use Rattle.json_doc.specs.declared.doc.Doc.TheFolds.{fold_out-Doc, ind-Doc}
use Rattle.json_doc.specs.declared.doc.Doc.TheVariants.{Null, Flag, Number, Str, Items, Fields, rolls-Null, rolls-Flag, rolls-Number, rolls-Str, rolls-Items, rolls-Fields}
use Rattle.texts.specs.declared.pairs.Pair.{Pair}
use Rattle.json_doc.specs.Documents.{IsProper}
use Rattle.texts.specs.Characters.{IsText}
use Rattle.texts.specs.Keys.{keys, IsNew, IsDistinct}
use Rattle.json_doc.proofs.ProperDocuments.{items-IsProper, fields-IsProper, keys-IsProper}
use Rattle.out_format.specs.declared.cell.Cell.{Cell}
use Rattle.out_format.specs.declared.cell.Cell.TheVariants.{Value}
use Rattle.out_format.specs.Cells.{values}
use Rattle.out_format.specs.Layers.{Layer, layer_of, scalar_of, scalar_text, is_scalar, is_object, fields_in, items_in}
use Rattle.out_format.specs.Members.{sorted, columns, object_cells, texts}
use Rattle.out_format.specs.Scalars.{scalars_step, scalars_of, line_values}
use Rattle.out_format.specs.Text.{Line, part_of, behind_key, line_of, object_lines, scalars_lines, texts_of, entry_lines, nested_lines, list_lines}
use Rattle.out_format.proofs.HeldCells.{scalars-held}
use Rattle.out_format.proofs.Layering.{on_value, text_kept, scalar_kept, fields_in-map, out-Null, out-Flag, out-Number, out-Str, out-Items, out-Fields}
use Rattle.out_format.proofs.Placing.{sorted-map, all-sorted}
use Rattle.out_format.proofs.Rearranged.{Texts, same_order, moved_along, split, each, sorted_texts}
use Rattle.out_format.proofs.TextParts.{text-same, lines-scalar, lines-object, lines-list, list-object, list-plain, entry-object, entry-other, nested_of, inner-out}

-- Texts of scalars in lines.

flat-append : {X : Type 0} (f : X → Texts) (xs ys : List X) → flat_map f (xs ++ ys) ≡ flat_map f xs ++ flat_map f ys
flat-append f [] ys = refl
flat-append f (x ∷ xs) ys = ap (λ ts. f x ++ ts) (flat-append f xs ys) ∙ sym (append_assoc (f x) (flat_map f xs) (flat_map f ys))

flat-lines : {X : Type 0} (f : X → List Line) (xs : List X) → line_values (flat_map f xs) ≡ flat_map (λ x. line_values (f x)) xs
flat-lines f [] = refl
flat-lines f (x ∷ xs) = flat-append values (f x) (flat_map f xs) ∙ ap (λ ts. line_values (f x) ++ ts) (flat-lines f xs)

values-texts : (ts : Texts) → values (map Value ts) ≡ ts
values-texts [] = refl
values-texts (t ∷ ts) = ap (λ rest. t ∷ rest) (values-texts ts)

values-behind : (id : Option (List ℕ)) (cells : List Cell) → values (behind_key id cells) ≡ values cells
values-behind None cells = refl
values-behind (Some key) cells = refl

values-line : (id : Option (List ℕ)) (cells : List Cell) → line_values (line_of id cells) ≡ values cells
values-line id [] = refl
values-line id (c ∷ cs) = append-nil (values (behind_key id (c ∷ cs))) ∙ values-behind id (c ∷ cs)

values-scalars : (id : Option (List ℕ)) (ts : Texts) → line_values (scalars_lines id ts) ≡ ts
values-scalars None ts = values-line None (map Value ts) ∙ values-texts ts
values-scalars (Some key) [] = refl
values-scalars (Some key) (t ∷ ts) = ap (λ rest. t ∷ rest) (values-scalars (Some key) ts)

-- The scalars of a document at each variant.

scalars-out : (d : Doc) → scalars_of d ≡ scalars_step (map-Doc Doc Texts scalars_of (out-Doc d))
scalars-out d = fold_out-Doc Texts scalars_step d

scalar_at : (x : Doc-F Texts) → is_scalar x ≡ true → scalars_step x ≡ option_to_list (scalar_text x)
scalar_at Doc-F.Null is = refl
scalar_at (Doc-F.Flag flag) is = refl
scalar_at (Doc-F.Number n) is = refl
scalar_at (Doc-F.Str t) is = refl
scalar_at (Doc-F.Items tss) is = cc
scalar_at (Doc-F.Fields ps) is = cc

scalars-scalar : (d : Doc) → is_scalar (out-Doc d) ≡ true → scalars_of d ≡ option_to_list (scalar_of d)
scalars-scalar d is =
    scalars-out d ∙ scalar_at (map-Doc Doc Texts scalars_of (out-Doc d)) (scalar_kept scalars_of (out-Doc d) ∙ is)
    ∙ ap option_to_list (text_kept scalars_of (out-Doc d))

flat_items : (ds : List Doc) → flat_map (λ ts. ts) (map scalars_of ds) ≡ flat_map scalars_of ds
flat_items [] = refl
flat_items (d ∷ ds) = ap (λ ts. scalars_of d ++ ts) (flat_items ds)

scalars-items : (ds : List Doc) → scalars_of (Items ds) ≡ flat_map scalars_of ds
scalars-items ds = scalars-out (Items ds) ∙ ap (λ x. scalars_step (map-Doc Doc Texts scalars_of x)) (out-Items ds) ∙ flat_items ds

flat_fields : (ps : List (Pair Doc)) → flat_map (λ p. p.value) (map (on_value scalars_of) ps) ≡ flat_map (λ p. scalars_of p.value) ps
flat_fields [] = refl
flat_fields (p ∷ ps) = ap (λ ts. scalars_of p.value ++ ts) (flat_fields ps)

scalars-fields : (ps : List (Pair Doc)) → scalars_of (Fields ps) ≡ flat_map (λ p. scalars_of p.value) ps
scalars-fields ps = scalars-out (Fields ps) ∙ ap (λ x. scalars_step (map-Doc Doc Texts scalars_of x)) (out-Fields ps) ∙ flat_fields ps

-- One document.

abbrev pub Holds : Doc → Type 0
Holds d = (id : Option (List ℕ)) → IsPermutation (scalars_of d) (line_values ((part_of d).whole id))

scalar_holds : (d : Doc) → is_scalar (out-Doc d) ≡ true → Holds d
scalar_holds d is id =
    let ts = texts_of (layer_of d ∷ []) in
    same_order (scalars_of d) (line_values ((part_of d).whole id))
    (scalars-scalar d is ∙ ap option_to_list (sym (text_kept scalar_of (out-Doc d))) ∙ sym (append-nil (option_to_list (scalar_text (layer_of d))))
    ∙ sym (values-scalars None ts) ∙ ap line_values (sym (lines-scalar d id is)))

-- the text of a scalar, and the lines of another document
abbrev first_of : Doc → Texts
first_of d = option_to_list (scalar_of d)

abbrev later_of : Option (List ℕ) → Doc → Texts
later_of id d = line_values (if is_scalar (out-Doc d) then [] else (part_of d).whole id)

no_text : (o : Option (List ℕ)) → is_some o ≡ false → option_to_list o ≡ []
no_text None e = refl
no_text (Some text) e = cc

parted_choice : (b : Bool) (d : Doc) (id : Option (List ℕ)) → is_scalar (out-Doc d) ≡ b → Holds d → IsPermutation (scalars_of d) (first_of d ++ line_values (if b then [] else (part_of d).whole id))
parted_choice true d id is holds = same_order (scalars_of d) (first_of d ++ []) (scalars-scalar d is ∙ sym (append-nil (first_of d)))
parted_choice false d id is holds =
    let lines = line_values ((part_of d).whole id) in
    moved_along (scalars_of d) (scalars_of d) lines (first_of d ++ lines) refl (ap (λ ts. ts ++ lines) (sym (no_text (scalar_of d) is))) (holds id)

parted : (d : Doc) (id : Option (List ℕ)) → Holds d → IsPermutation (scalars_of d) (first_of d ++ later_of id d)
parted d id holds = parted_choice (is_scalar (out-Doc d)) d id refl holds

-- Lists.

firsts : (ds : List Doc) → texts_of (map layer_of ds) ≡ flat_map first_of ds
firsts [] = refl
firsts (d ∷ ds) = ap (λ t. option_to_list t ++ texts_of (map layer_of ds)) (text_kept scalar_of (out-Doc d)) ∙ ap (λ ts. first_of d ++ ts) (firsts ds)

nested_same : (id : Option (List ℕ)) (d : Doc) → line_values (nested_lines id (part_of d)) ≡ later_of id d
nested_same id d = ap (λ t. line_values (if is_some t then [] else (part_of d).whole id)) (text-same d)

laters : (id : Option (List ℕ)) (ds : List Doc) → line_values (flat_map (nested_lines id) (map part_of ds)) ≡ flat_map (later_of id) ds
laters id [] = refl
laters id (d ∷ ds) =
    flat-append values (nested_lines id (part_of d)) (flat_map (nested_lines id) (map part_of ds))
    ∙ ap (λ ts. ts ++ line_values (flat_map (nested_lines id) (map part_of ds))) (nested_same id d) ∙ ap (λ ts. later_of id d ++ ts) (laters id ds)

all_parted : (id : Option (List ℕ)) (ds : List Doc) → AllByRecursion Holds ds → AllByRecursion (λ d. IsPermutation (scalars_of d) (first_of d ++ later_of id d)) ds
all_parted id [] all = tt
all_parted id (d ∷ ds) all = (parted d id all.0, all_parted id ds all.1)

plain_holds : (ds : List Doc) (id : Option (List ℕ)) → list_any (λ d. is_object (out-Doc d)) ds ≡ false → AllByRecursion Holds ds → IsPermutation (flat_map scalars_of ds) (line_values (list_lines id (map part_of ds)))
plain_holds ds id is all =
    let lines = ap line_values (list-plain ds id is) ∙ flat-append values (scalars_lines id (texts_of (map layer_of ds))) (flat_map (nested_lines id) (map part_of ds))
    ∙ ap (λ ts. ts ++ line_values (flat_map (nested_lines id) (map part_of ds))) (values-scalars id (texts_of (map layer_of ds)) ∙ firsts ds)
    ∙ ap (λ ts. flat_map first_of ds ++ ts) (laters id ds) in
    let moved = IsPermutation-trans (flat_map scalars_of ds) (flat_map (λ d. first_of d ++ later_of id d) ds) (flat_map first_of ds ++ flat_map (later_of id) ds)
    (each scalars_of (λ d. first_of d ++ later_of id d) ds (all_parted id ds all)) (split first_of (later_of id) ds) in
    subst (IsPermutation (flat_map scalars_of ds)) (sym lines) moved

object-values : (before after : List Layer) (d : Doc) (id : Option (List ℕ))
    → line_values (object_lines id (columns (before ++ (layer_of d ∷ after))) (layer_of d) ++ (part_of d).inner) ≡ texts (sorted (fields_in (layer_of d))) ++ line_values (part_of d).inner
object-values before after d id =
    let cells = object_cells (columns (before ++ (layer_of d ∷ after))) (layer_of d) in
    flat-append values (line_of id cells) (part_of d).inner
    ∙ ap (λ ts. ts ++ line_values (part_of d).inner) (values-line id cells ∙ scalars-held before after (layer_of d))

entry_choice : (b : Bool) (before after : List Layer) (d : Doc) (id : Option (List ℕ)) → is_object (out-Doc d) ≡ b
    → line_values (entry_lines id (columns (before ++ (layer_of d ∷ after))) (part_of d)) ≡ line_values ((part_of d).whole id)
entry_choice true before after d id is =
    ap line_values (entry-object d id (columns (before ++ (layer_of d ∷ after))) is) ∙ object-values before after d id
    ∙ sym (object-values [] [] d id) ∙ ap line_values (sym (lines-object d id is))
entry_choice false before after d id is = ap line_values (entry-other d id (columns (before ++ (layer_of d ∷ after))) is)

entries_same : (before : List Layer) (ds : List Doc) (id : Option (List ℕ))
    → flat_map (λ d. line_values (entry_lines id (columns (before ++ map layer_of ds)) (part_of d))) ds ≡ flat_map (λ d. line_values ((part_of d).whole id)) ds
entries_same before [] id = refl
entries_same before (d ∷ ds) id =
    let here = columns (before ++ (layer_of d ∷ map layer_of ds)) in
    let along : columns ((before ++ layer_of d ∷ []) ++ map layer_of ds) ≡ here = ap columns (append_assoc before (layer_of d ∷ []) (map layer_of ds)) in
    ap (λ ts. ts ++ flat_map (λ e. line_values (entry_lines id here (part_of e))) ds) (entry_choice (is_object (out-Doc d)) before (map layer_of ds) d id refl)
    ∙ ap (λ ts. line_values ((part_of d).whole id) ++ ts)
    (ap (λ ks. flat_map (λ e. line_values (entry_lines id ks (part_of e))) ds) (sym along) ∙ entries_same (before ++ layer_of d ∷ []) ds id)

mapped : {X Y : Type 0} (f : Y → Texts) (g : X → Y) (xs : List X) → flat_map f (map g xs) ≡ flat_map (λ x. f (g x)) xs
mapped f g [] = refl
mapped f g (x ∷ xs) = ap (λ ts. f (g x) ++ ts) (mapped f g xs)

all_at : (id : Option (List ℕ)) (ds : List Doc) → AllByRecursion Holds ds → AllByRecursion (λ d. IsPermutation (scalars_of d) (line_values ((part_of d).whole id))) ds
all_at id [] all = tt
all_at id (d ∷ ds) all = (all.0 id, all_at id ds all.1)

objects_hold : (ds : List Doc) (id : Option (List ℕ)) → list_any (λ d. is_object (out-Doc d)) ds ≡ true → AllByRecursion Holds ds → IsPermutation (flat_map scalars_of ds) (line_values (list_lines id (map part_of ds)))
objects_hold ds id is all =
    let cols = columns (map layer_of ds) in
    let lines = ap line_values (list-object ds id is) ∙ flat-lines (entry_lines id cols) (map part_of ds)
    ∙ mapped (λ part. line_values (entry_lines id cols part)) part_of ds ∙ entries_same [] ds id in
    subst (IsPermutation (flat_map scalars_of ds)) (sym lines) (each scalars_of (λ d. line_values ((part_of d).whole id)) ds (all_at id ds all))

list_choice : (b : Bool) (ds : List Doc) (id : Option (List ℕ)) → list_any (λ d. is_object (out-Doc d)) ds ≡ b → AllByRecursion Holds ds → IsPermutation (flat_map scalars_of ds) (line_values (list_lines id (map part_of ds)))
list_choice true ds id is all = objects_hold ds id is all
list_choice false ds id is all = plain_holds ds id is all

items_hold : (ds : List Doc) → AllByRecursion Holds ds → Holds (Items ds)
items_hold ds all id =
    let out = out-Items ds in
    let lines = lines-list (Items ds) id (ap is_scalar out) (ap is_object out) ∙ ap (λ x. list_lines id (map part_of (items_in x))) out in
    moved_along (flat_map scalars_of ds) (scalars_of (Items ds)) (line_values (list_lines id (map part_of ds))) (line_values ((part_of (Items ds)).whole id))
    (scalars-items ds) (ap line_values (sym lines)) (list_choice (list_any (λ d. is_object (out-Doc d)) ds) ds id refl all)

-- Objects.

member-texts : (ps : List (Pair Doc)) → texts (map (on_value scalar_of) ps) ≡ flat_map (λ p. first_of p.value) ps
member-texts [] = refl
member-texts (p ∷ ps) = ap (λ ts. first_of p.value ++ ts) (member-texts ps)

members_parted : (ps : List (Pair Doc)) → AllByRecursion (λ p. Holds p.value) ps → AllByRecursion (λ p. IsPermutation (scalars_of p.value) (first_of p.value ++ line_values (nested_of p))) ps
members_parted [] all = tt
members_parted (p ∷ ps) all = (parted p.value (Some p.key) all.0, members_parted ps all.1)

fields_hold : (ps : List (Pair Doc)) → IsDistinct (keys ps) → AllByRecursion (λ p. Holds p.value) ps → Holds (Fields ps)
fields_hold ps distinct all id =
    let d : Doc = Fields ps in
    let out = out-Fields ps in
    let members = sorted ps in
    let firsts' : texts (sorted (fields_in (layer_of d))) ≡ flat_map (λ p. first_of p.value) members =
    ap (λ qs. texts (sorted qs)) (fields_in-map scalar_of (out-Doc d) ∙ ap (λ x. map (on_value scalar_of) (fields_in x)) out)
    ∙ ap texts (sym (sorted-map scalar_of ps)) ∙ member-texts members in
    let nested : line_values (part_of d).inner ≡ flat_map (λ p. line_values (nested_of p)) members =
    ap line_values (inner-out d ∙ ap (λ x. flat_map nested_of (sorted (fields_in x))) out) ∙ flat-lines nested_of members in
    let lines = ap line_values (lines-object d id (ap is_object out)) ∙ object-values [] [] d id
    ∙ ap (λ ts. ts ++ line_values (part_of d).inner) firsts' ∙ ap (λ ts. flat_map (λ p. first_of p.value) members ++ ts) nested in
    let moved = IsPermutation-trans (flat_map (λ p. scalars_of p.value) ps) (flat_map (λ p. scalars_of p.value) members) (flat_map (λ p. first_of p.value) members ++ flat_map (λ p. line_values (nested_of p)) members)
    (sorted_texts (λ p. scalars_of p.value) ps distinct)
    (IsPermutation-trans (flat_map (λ p. scalars_of p.value) members) (flat_map (λ p. first_of p.value ++ line_values (nested_of p)) members) (flat_map (λ p. first_of p.value) members ++ flat_map (λ p. line_values (nested_of p)) members)
    (each (λ p. scalars_of p.value) (λ p. first_of p.value ++ line_values (nested_of p)) members (members_parted members (all-sorted (λ p. Holds p.value) ps all)))
    (split (λ p. first_of p.value) (λ p. line_values (nested_of p)) members)) in
    moved_along (flat_map (λ p. scalars_of p.value) ps) (scalars_of d) (flat_map (λ p. first_of p.value) members ++ flat_map (λ p. line_values (nested_of p)) members) (line_values ((part_of d).whole id))
    (scalars-fields ps) (sym lines) moved

-- Every document.

abbrev Claim : Doc → Type 0
Claim d = IsProper d → Holds d

abbrev Seen : Type 0
Seen = (d : Doc) × Claim d

all_items : (es : List Seen) → AllByRecursion IsProper (map (λ e. e.0) es) → AllByRecursion Holds (map (λ e. e.0) es)
all_items [] proper = tt
all_items (e ∷ es) proper = (e.1 proper.0, all_items es proper.1)

plain : Pair Seen → Pair Doc
plain p = record { key = p.key; value = p.value.0 }

all_fields : (es : List (Pair Seen)) → AllByRecursion (λ p. IsProper p.value) (map plain es) → AllByRecursion (λ p. Holds p.value) (map plain es)
unfolding plain
all_fields [] proper = tt
all_fields (e ∷ es) proper = (e.value.1 proper.0, all_fields es proper.1)

layer_holds : (y : Doc-F Seen) → Claim (roll-Doc (map-Doc Seen Doc (λ e. e.0) y))
unfolding plain
layer_holds Doc-F.Null = subst Claim (sym rolls-Null) (λ proper. scalar_holds Null (ap is_scalar out-Null))
layer_holds (Doc-F.Flag flag) = subst Claim (sym (rolls-Flag flag)) (λ proper. scalar_holds (Flag flag) (ap is_scalar (out-Flag flag)))
layer_holds (Doc-F.Number n) = subst Claim (sym (rolls-Number n)) (λ proper. scalar_holds (Number n) (ap is_scalar (out-Number n)))
layer_holds (Doc-F.Str t) = subst Claim (sym (rolls-Str t)) (λ proper. scalar_holds (Str t) (ap is_scalar (out-Str t)))
layer_holds (Doc-F.Items es) =
    let ds : List Doc = map (λ e. e.0) es in
    subst Claim (sym (rolls-Items ds)) (λ proper. items_hold ds (all_items es (items-IsProper ds proper)))
layer_holds (Doc-F.Fields es) =
    let ps : List (Pair Doc) = map plain es in
    subst Claim (sym (rolls-Fields ps)) (λ proper.
    let keyed = keys-IsProper ps proper in
    fields_hold ps keyed.1 (all_fields es (fields-IsProper ps proper)))

pub scalars-once : (d : Doc) → IsProper d → Holds d
scalars-once = ind-Doc Claim (λ x y is. subst (λ z. Claim (roll-Doc z)) is (layer_holds y))
