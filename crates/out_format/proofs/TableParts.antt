-- The sections of a document, given those of its parts.
use Rattle.std.proofs.Common.{◌≡◌, ℕ, true, false, ◌||◌, ◌&&◌, if◌then◌else◌, List, [], ◌∷◌, ◌++◌, map, Option, Result, Ok, Err, refl, sym, ap, ◌∙◌, append_assoc}
use Rattle.std.specs.Prelude.{is_some, option_to_list, OnOk}
use Rattle.std.specs.List.{flat_map, list_any, list_all}
use Rattle.json_doc.specs.declared.doc.Doc.{Doc, out-Doc, map-Doc}
use Rattle.json_doc.specs.declared.doc.Doc.TheOpen.{Doc-F}
use Rattle.json_doc.specs.declared.doc.Doc.TheFolds.{fold_out-Doc}
use Rattle.texts.specs.declared.memory.OutOfMemory.{OutOfMemory}
use Rattle.texts.specs.declared.pairs.Pair.{Pair}
use Rattle.out_format.specs.declared.section.Section.{Section}
use Rattle.out_format.specs.Layers.{layer_of, scalar_of, scalar_text, is_scalar, is_object, items_in, fields_in}
use Rattle.out_format.specs.Parts.{part_step, layer_step, has_object}
use Rattle.out_format.proofs.PartLayers as parts
use Rattle.out_format.specs.Members.{sorted}
use Rattle.out_format.specs.Sections.{section_text, sections_text}
use Rattle.out_format.specs.Table.{Part, part_of, inner_step, sections_step, list_sections, entry_at, entry_sections, nested_sections, objects_sections, rows_sections, numbered, member_path, item_path, member_sections, members_sections, is_row, row_texts}
use Rattle.out_format.specs.Text.{texts_of}
use Rattle.out_format.proofs.Layering.{on_value, text_kept, object_kept, scalar_kept, items_in-map, fields_in-map}
use Rattle.out_format.proofs.Placing.{sorted-map}

pub sections_text-append : (xs ys : List Section) → sections_text (xs ++ ys) ≡ sections_text xs ++ sections_text ys
sections_text-append [] ys = refl
sections_text-append (x ∷ xs) ys = ap (λ cs. section_text x ++ cs) (sections_text-append xs ys) ∙ sym (append_assoc (section_text x) (sections_text xs) (sections_text ys))

-- rows

scalars-row : (ds : List Doc) → list_all (λ d. is_scalar (out-Doc d)) ds ≡ list_all is_some (map scalar_of ds)
scalars-row [] = refl
scalars-row (d ∷ ds) = ap (λ b. is_scalar (out-Doc d) && b) (scalars-row ds)

row_at : (x : Doc-F Doc) → is_object x ≡ false → list_all (λ d. is_scalar (out-Doc d)) (items_in x) ≡ is_row (map-Doc Doc (Option (List ℕ)) scalar_of x)
row_at Doc-F.Null is = refl
row_at (Doc-F.Flag flag) is = refl
row_at (Doc-F.Number n) is = refl
row_at (Doc-F.Str t) is = refl
row_at (Doc-F.Items ds) is = scalars-row ds
row_at (Doc-F.Fields ps) is = cc

pub row-test : (d : Doc) → is_object (out-Doc d) ≡ false → list_all (λ e. is_scalar (out-Doc e)) (items_in (out-Doc d)) ≡ is_row (layer_of d)
row-test d is = row_at (out-Doc d) is

items-texts : (ds : List Doc) → texts_of (map layer_of ds) ≡ flat_map option_to_list (map scalar_of ds)
items-texts [] = refl
items-texts (d ∷ ds) =
    ap (λ t. option_to_list t ++ texts_of (map layer_of ds)) (text_kept scalar_of (out-Doc d)) ∙ ap (λ ts. option_to_list (scalar_of d) ++ ts) (items-texts ds)

texts_at : (x : Doc-F Doc) → is_scalar x ≡ false → texts_of (map layer_of (items_in x)) ≡ row_texts (map-Doc Doc (Option (List ℕ)) scalar_of x)
texts_at Doc-F.Null none = cc
texts_at (Doc-F.Flag flag) none = cc
texts_at (Doc-F.Number n) none = cc
texts_at (Doc-F.Str t) none = cc
texts_at (Doc-F.Items ds) none = items-texts ds
texts_at (Doc-F.Fields ps) none = refl

pub row-texts : (d : Doc) → is_scalar (out-Doc d) ≡ false → texts_of (map layer_of (items_in (out-Doc d))) ≡ row_texts (layer_of d)
row-texts d none = texts_at (out-Doc d) none

-- the parts of a document, whose layers are its own

abbrev parts_in : Doc → Doc-F Part
parts_in = parts.parts_in sections_step inner_step

part-out : (d : Doc) → part_of d ≡ part_step sections_step inner_step (parts_in d)
part-out = parts.part-out sections_step inner_step

text-same : (d : Doc) → scalar_text (part_of d).layer ≡ scalar_of d
text-same = parts.text-same sections_step inner_step

object-same : (d : Doc) → is_object (part_of d).layer ≡ is_object (out-Doc d)
object-same = parts.object-same sections_step inner_step

layer-same : (d : Doc) → (part_of d).layer ≡ layer_of d
layer-same = parts.layer-same sections_step inner_step

layer-at : (x : Doc-F Doc) → layer_step (map-Doc Doc Part part_of x) ≡ map-Doc Doc (Option (List ℕ)) scalar_of x
layer-at = parts.layer-at sections_step inner_step

layers-same : (ds : List Doc) → map (λ (p : Part). p.layer) (map part_of ds) ≡ map layer_of ds
layers-same = parts.layers-same sections_step inner_step

has_object-same : (ds : List Doc) → has_object (map part_of ds) ≡ list_any (λ d. is_object (out-Doc d)) ds
has_object-same = parts.has_object-same sections_step inner_step

-- the sections of a document by its kind

scalar_at : (x : Doc-F Part) (path : List ℕ) → is_scalar x ≡ true → sections_step x path ≡ rows_sections path (layer_step x ∷ [])
scalar_at Doc-F.Null path is = refl
scalar_at (Doc-F.Flag flag) path is = refl
scalar_at (Doc-F.Number n) path is = refl
scalar_at (Doc-F.Str t) path is = refl
scalar_at (Doc-F.Items parts) path is = cc
scalar_at (Doc-F.Fields ps) path is = cc

object_at : (x : Doc-F Part) (path : List ℕ) → is_object x ≡ true → sections_step x path ≡ objects_sections path (layer_step x ∷ []) ++ inner_step x path
object_at Doc-F.Null path is = cc
object_at (Doc-F.Flag flag) path is = cc
object_at (Doc-F.Number n) path is = cc
object_at (Doc-F.Str t) path is = cc
object_at (Doc-F.Items parts) path is = cc
object_at (Doc-F.Fields ps) path is = refl

list_at : (x : Doc-F Part) (path : List ℕ) → is_scalar x ≡ false → is_object x ≡ false → sections_step x path ≡ list_sections path (items_in x)
list_at Doc-F.Null path none is = cc
list_at (Doc-F.Flag flag) path none is = cc
list_at (Doc-F.Number n) path none is = cc
list_at (Doc-F.Str t) path none is = cc
list_at (Doc-F.Items parts) path none is = refl
list_at (Doc-F.Fields ps) path none is = cc

pub sections-scalar : (d : Doc) (path : List ℕ) → is_scalar (out-Doc d) ≡ true → (part_of d).whole path ≡ rows_sections path (layer_of d ∷ [])
sections-scalar d path is =
    ap (λ p. p.whole path) (part-out d) ∙ scalar_at (parts_in d) path (scalar_kept part_of (out-Doc d) ∙ is)
    ∙ ap (λ l. rows_sections path (l ∷ [])) (layer-at (out-Doc d))

pub sections-object : (d : Doc) (path : List ℕ) → is_object (out-Doc d) ≡ true → (part_of d).whole path ≡ objects_sections path (layer_of d ∷ []) ++ (part_of d).inner path
sections-object d path is =
    ap (λ p. p.whole path) (part-out d) ∙ object_at (parts_in d) path (object_kept part_of (out-Doc d) ∙ is)
    ∙ ap (λ l. objects_sections path (l ∷ []) ++ inner_step (parts_in d) path) (layer-at (out-Doc d))
    ∙ ap (λ p. objects_sections path (layer_of d ∷ []) ++ p.inner path) (sym (part-out d))

pub sections-list : (d : Doc) (path : List ℕ) → is_scalar (out-Doc d) ≡ false → is_object (out-Doc d) ≡ false → (part_of d).whole path ≡ list_sections path (map part_of (items_in (out-Doc d)))
sections-list d path none is =
    ap (λ p. p.whole path) (part-out d) ∙ list_at (parts_in d) path (scalar_kept part_of (out-Doc d) ∙ none) (object_kept part_of (out-Doc d) ∙ is)
    ∙ ap (list_sections path) (items_in-map part_of (out-Doc d))

-- a member's sections, where it is no scalar
abbrev pub nested_of : List ℕ → Pair Doc → List Section
nested_of path p = if is_scalar (out-Doc p.value) then [] else (part_of p.value).whole (member_path path p.key)

nested-same : (path : List ℕ) (p : Pair Doc) → member_sections path (on_value part_of p) ≡ nested_of path p
nested-same path p = ap (λ t. if is_some t then [] else (part_of p.value).whole (member_path path p.key)) (text-same p.value)

all-nested : (path : List ℕ) (ps : List (Pair Doc)) → flat_map (member_sections path) (map (on_value part_of) ps) ≡ flat_map (nested_of path) ps
all-nested path [] = refl
all-nested path (p ∷ ps) = ap (λ ls. ls ++ flat_map (member_sections path) (map (on_value part_of) ps)) (nested-same path p) ∙ ap (λ ls. nested_of path p ++ ls) (all-nested path ps)

inner_at : (x : Doc-F Part) (path : List ℕ) → inner_step x path ≡ members_sections path (fields_in x)
inner_at Doc-F.Null path = refl
inner_at (Doc-F.Flag flag) path = refl
inner_at (Doc-F.Number n) path = refl
inner_at (Doc-F.Str t) path = refl
inner_at (Doc-F.Items parts) path = refl
inner_at (Doc-F.Fields ps) path = refl

pub inner-out : (d : Doc) (path : List ℕ) → (part_of d).inner path ≡ flat_map (nested_of path) (sorted (fields_in (out-Doc d)))
inner-out d path =
    ap (λ p. p.inner path) (part-out d) ∙ inner_at (parts_in d) path ∙ ap (members_sections path) (fields_in-map part_of (out-Doc d))
    ∙ ap (flat_map (member_sections path)) (sym (sorted-map part_of (fields_in (out-Doc d)))) ∙ all-nested path (sorted (fields_in (out-Doc d)))

-- an item

pub entry-object : (d : Doc) (path : List ℕ) → is_object (out-Doc d) ≡ true → entry_at path (part_of d) ≡ (part_of d).inner path
entry-object d path is = ap (λ b. if b then (part_of d).inner path else (part_of d).whole path) (object-same d ∙ is)

pub entry-other : (d : Doc) (path : List ℕ) → is_object (out-Doc d) ≡ false → entry_at path (part_of d) ≡ (part_of d).whole path
entry-other d path is = ap (λ b. if b then (part_of d).inner path else (part_of d).whole path) (object-same d ∙ is)

pub nested-row : (d : Doc) (path : List ℕ) (place : ℕ) → is_row (layer_of d) ≡ true → nested_sections path place (part_of d) ≡ []
nested-row d path place is =
    ap (λ l. if is_row l then [] else (part_of d).whole (item_path path place)) (layer-same d) ∙ ap (λ b. if b then [] else (part_of d).whole (item_path path place)) is

pub nested-other : (d : Doc) (path : List ℕ) (place : ℕ) → is_row (layer_of d) ≡ false → nested_sections path place (part_of d) ≡ (part_of d).whole (item_path path place)
nested-other d path place is =
    ap (λ l. if is_row l then [] else (part_of d).whole (item_path path place)) (layer-same d) ∙ ap (λ b. if b then [] else (part_of d).whole (item_path path place)) is

-- lists

pub list-object : (ds : List Doc) (path : List ℕ) → list_any (λ d. is_object (out-Doc d)) ds ≡ true
    → list_sections path (map part_of ds) ≡ objects_sections path (map layer_of ds) ++ numbered (entry_sections path) 0 (map part_of ds)
list-object ds path is =
    let parts = map part_of ds in
    let layers = map (λ (p : Part). p.layer) parts in
    ap (λ b. if b then objects_sections path layers ++ numbered (entry_sections path) 0 parts else rows_sections path layers ++ numbered (nested_sections path) 0 parts) (has_object-same ds ∙ is)
    ∙ ap (λ ls. objects_sections path ls ++ numbered (entry_sections path) 0 parts) (layers-same ds)

pub list-plain : (ds : List Doc) (path : List ℕ) → list_any (λ d. is_object (out-Doc d)) ds ≡ false
    → list_sections path (map part_of ds) ≡ rows_sections path (map layer_of ds) ++ numbered (nested_sections path) 0 (map part_of ds)
list-plain ds path is =
    let parts = map part_of ds in
    let layers = map (λ (p : Part). p.layer) parts in
    ap (λ b. if b then objects_sections path layers ++ numbered (entry_sections path) 0 parts else rows_sections path layers ++ numbered (nested_sections path) 0 parts) (has_object-same ds ∙ is)
    ∙ ap (λ ls. rows_sections path ls ++ numbered (nested_sections path) 0 parts) (layers-same ds)

-- sections behind others
pub sections_behind : (xs ys : List Section) (out out' : List ℕ) → out' ≡ out ++ sections_text xs → out' ++ sections_text ys ≡ out ++ sections_text (xs ++ ys)
sections_behind xs ys out out' e =
    ap (λ cs. cs ++ sections_text ys) e ∙ append_assoc out (sections_text xs) (sections_text ys) ∙ ap (λ cs. out ++ cs) (sym (sections_text-append xs ys))

-- the sections of a thing that has none
pub sections_none : (xs rest : List Section) (out : List ℕ) → xs ≡ [] → out ++ sections_text rest ≡ out ++ sections_text (xs ++ rest)
sections_none xs rest out e = ap (λ ls. out ++ sections_text (ls ++ rest)) (sym e)

-- the same where both were written
pub on_two_behind : (r : Result (Unit {0}) OutOfMemory) (xs ys : List Section) (out out' out'' : List ℕ) → out' ≡ out ++ sections_text xs
    → OnOk r (out'' ≡ out' ++ sections_text ys) → OnOk r (out'' ≡ out ++ sections_text (xs ++ ys))
on_two_behind (Ok done) xs ys out out' out'' e e' = e' ∙ sections_behind xs ys out out' e
on_two_behind (Err none) xs ys out out' out'' e e' = tt
