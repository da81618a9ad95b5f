-- The lines of a document, given those of its parts.
use Rattle.std.proofs.Common.{◌≡◌, ℕ, true, false, ◌||◌, if◌then◌else◌, List, [], ◌∷◌, ◌++◌, map, Option, Some, None, refl, sym, ap, ◌∙◌, append_assoc, append-nil}
use Rattle.std.specs.Prelude.{is_some, option_to_list}
use Rattle.std.specs.List.{flat_map, list_any}
use Rattle.json_doc.specs.declared.doc.Doc.{Doc, out-Doc, map-Doc}
use Rattle.json_doc.specs.declared.doc.Doc.TheOpen.{Doc-F}
use Rattle.json_doc.specs.declared.doc.Doc.TheFolds.{fold_out-Doc}
use Rattle.texts.specs.declared.pairs.Pair.{Pair}
use Rattle.out_format.specs.declared.cell.Cell.TheVariants.{Value}
use Rattle.out_format.specs.Layers.{layer_of, scalar_of, scalar_text, is_scalar, is_object, items_in, fields_in}
use Rattle.out_format.specs.Parts.{part_step, layer_step, has_object}
use Rattle.out_format.proofs.PartLayers as parts
use Rattle.out_format.specs.Members.{sorted, columns}
use Rattle.out_format.specs.Text.{Line, Part, part_of, inner_step, lines_step, list_lines, entry_lines, nested_lines, object_lines, scalars_lines, texts_of, member_lines, members_lines, behind_key, line_text, lines_text}
use Rattle.out_format.proofs.Layering.{on_value, text_kept, object_kept, scalar_kept, items_in-map, fields_in-map}
use Rattle.out_format.proofs.Placing.{sorted-map}

pub each_line : (key : List ℕ) (texts : List (List ℕ)) → flat_map (λ cell. line_text (behind_key (Some key) (cell ∷ []))) (map Value texts) ≡ lines_text (scalars_lines (Some key) texts)
each_line key [] = refl
each_line key (t ∷ ts) = ap (λ cs. line_text (behind_key (Some key) (Value t ∷ [])) ++ cs) (each_line key ts)

pub lines_text-append : (xs ys : List Line) → lines_text (xs ++ ys) ≡ lines_text xs ++ lines_text ys
lines_text-append [] ys = refl
lines_text-append (x ∷ xs) ys = ap (λ cs. line_text x ++ cs) (lines_text-append xs ys) ∙ sym (append_assoc (line_text x) (lines_text xs) (lines_text ys))

-- the parts of a document, whose layers are its own

abbrev parts_in : Doc → Doc-F Part
parts_in = parts.parts_in lines_step inner_step

part-out : (d : Doc) → part_of d ≡ part_step lines_step inner_step (parts_in d)
part-out = parts.part-out lines_step inner_step

pub text-same : (d : Doc) → scalar_text (part_of d).layer ≡ scalar_of d
text-same = parts.text-same lines_step inner_step

pub object-same : (d : Doc) → is_object (part_of d).layer ≡ is_object (out-Doc d)
object-same = parts.object-same lines_step inner_step

pub layer-same : (d : Doc) → (part_of d).layer ≡ layer_of d
layer-same = parts.layer-same lines_step inner_step

layer-at : (x : Doc-F Doc) → layer_step (map-Doc Doc Part part_of x) ≡ map-Doc Doc (Option (List ℕ)) scalar_of x
layer-at = parts.layer-at lines_step inner_step

pub layers-same : (ds : List Doc) → map (λ (p : Part). p.layer) (map part_of ds) ≡ map layer_of ds
layers-same = parts.layers-same lines_step inner_step

pub has_object-same : (ds : List Doc) → has_object (map part_of ds) ≡ list_any (λ d. is_object (out-Doc d)) ds
has_object-same = parts.has_object-same lines_step inner_step

-- the lines of a document by its kind

scalar_at : (x : Doc-F Part) (id : Option (List ℕ)) → is_scalar x ≡ true → lines_step x id ≡ scalars_lines None (option_to_list (scalar_text x))
scalar_at Doc-F.Null id is = refl
scalar_at (Doc-F.Flag flag) id is = refl
scalar_at (Doc-F.Number n) id is = refl
scalar_at (Doc-F.Str t) id is = refl
scalar_at (Doc-F.Items parts) id is = cc
scalar_at (Doc-F.Fields ps) id is = cc

object_at : (x : Doc-F Part) (id : Option (List ℕ)) → is_object x ≡ true → lines_step x id ≡ object_lines id (columns (layer_step x ∷ [])) (layer_step x) ++ inner_step x
object_at Doc-F.Null id is = cc
object_at (Doc-F.Flag flag) id is = cc
object_at (Doc-F.Number n) id is = cc
object_at (Doc-F.Str t) id is = cc
object_at (Doc-F.Items parts) id is = cc
object_at (Doc-F.Fields ps) id is = refl

list_at : (x : Doc-F Part) (id : Option (List ℕ)) → is_scalar x ≡ false → is_object x ≡ false → lines_step x id ≡ list_lines id (items_in x)
list_at Doc-F.Null id none is = cc
list_at (Doc-F.Flag flag) id none is = cc
list_at (Doc-F.Number n) id none is = cc
list_at (Doc-F.Str t) id none is = cc
list_at (Doc-F.Items parts) id none is = refl
list_at (Doc-F.Fields ps) id none is = cc

pub lines-scalar : (d : Doc) (id : Option (List ℕ)) → is_scalar (out-Doc d) ≡ true → (part_of d).whole id ≡ scalars_lines None (texts_of (layer_of d ∷ []))
lines-scalar d id is =
    ap (λ p. p.whole id) (part-out d) ∙ scalar_at (parts_in d) id (scalar_kept part_of (out-Doc d) ∙ is)
    ∙ ap (λ t. scalars_lines None (option_to_list t)) (text_kept part_of (out-Doc d) ∙ sym (text_kept scalar_of (out-Doc d)))
    ∙ ap (scalars_lines None) (sym (append-nil (option_to_list (scalar_text (layer_of d)))))

pub lines-object : (d : Doc) (id : Option (List ℕ)) → is_object (out-Doc d) ≡ true → (part_of d).whole id ≡ object_lines id (columns (layer_of d ∷ [])) (layer_of d) ++ (part_of d).inner
lines-object d id is =
    ap (λ p. p.whole id) (part-out d) ∙ object_at (parts_in d) id (object_kept part_of (out-Doc d) ∙ is)
    ∙ ap (λ l. object_lines id (columns (l ∷ [])) l ++ inner_step (parts_in d)) (layer-at (out-Doc d))
    ∙ ap (λ p. object_lines id (columns (layer_of d ∷ [])) (layer_of d) ++ p.inner) (sym (part-out d))

pub lines-list : (d : Doc) (id : Option (List ℕ)) → is_scalar (out-Doc d) ≡ false → is_object (out-Doc d) ≡ false → (part_of d).whole id ≡ list_lines id (map part_of (items_in (out-Doc d)))
lines-list d id none is =
    ap (λ p. p.whole id) (part-out d) ∙ list_at (parts_in d) id (scalar_kept part_of (out-Doc d) ∙ none) (object_kept part_of (out-Doc d) ∙ is)
    ∙ ap (list_lines id) (items_in-map part_of (out-Doc d))

-- an object's line and its other members

-- a member's lines, where it is no scalar
abbrev pub nested_of : Pair Doc → List Line
nested_of p = if is_scalar (out-Doc p.value) then [] else (part_of p.value).whole (Some p.key)

nested-same : (p : Pair Doc) → member_lines (on_value part_of p) ≡ nested_of p
nested-same p = ap (λ t. if is_some t then [] else (part_of p.value).whole (Some p.key)) (text-same p.value)

all-nested : (ps : List (Pair Doc)) → flat_map member_lines (map (on_value part_of) ps) ≡ flat_map nested_of ps
all-nested [] = refl
all-nested (p ∷ ps) = ap (λ ls. ls ++ flat_map member_lines (map (on_value part_of) ps)) (nested-same p) ∙ ap (λ ls. nested_of p ++ ls) (all-nested ps)

inner_at : (x : Doc-F Part) → inner_step x ≡ members_lines (fields_in x)
inner_at Doc-F.Null = refl
inner_at (Doc-F.Flag flag) = refl
inner_at (Doc-F.Number n) = refl
inner_at (Doc-F.Str t) = refl
inner_at (Doc-F.Items parts) = refl
inner_at (Doc-F.Fields ps) = refl

pub inner-out : (d : Doc) → (part_of d).inner ≡ flat_map nested_of (sorted (fields_in (out-Doc d)))
inner-out d =
    ap (λ p. p.inner) (part-out d) ∙ inner_at (parts_in d) ∙ ap members_lines (fields_in-map part_of (out-Doc d))
    ∙ ap (flat_map member_lines) (sym (sorted-map part_of (fields_in (out-Doc d)))) ∙ all-nested (sorted (fields_in (out-Doc d)))

-- an item

pub entry-object : (d : Doc) (id : Option (List ℕ)) (keys' : List (List ℕ)) → is_object (out-Doc d) ≡ true
    → entry_lines id keys' (part_of d) ≡ object_lines id keys' (layer_of d) ++ (part_of d).inner
entry-object d id keys' is =
    ap (λ b. if b then object_lines id keys' (part_of d).layer ++ (part_of d).inner else (part_of d).whole id) (object-same d ∙ is)
    ∙ ap (λ l. object_lines id keys' l ++ (part_of d).inner) (layer-same d)

pub entry-other : (d : Doc) (id : Option (List ℕ)) (keys' : List (List ℕ)) → is_object (out-Doc d) ≡ false → entry_lines id keys' (part_of d) ≡ (part_of d).whole id
entry-other d id keys' is =
    ap (λ b. if b then object_lines id keys' (part_of d).layer ++ (part_of d).inner else (part_of d).whole id) (object-same d ∙ is)

pub nested-scalar : (d : Doc) (id : Option (List ℕ)) → is_scalar (out-Doc d) ≡ true → nested_lines id (part_of d) ≡ []
nested-scalar d id is = ap (λ t. if is_some t then [] else (part_of d).whole id) (text-same d) ∙ ap (λ b. if b then [] else (part_of d).whole id) is

pub nested-other : (d : Doc) (id : Option (List ℕ)) → is_scalar (out-Doc d) ≡ false → nested_lines id (part_of d) ≡ (part_of d).whole id
nested-other d id is = ap (λ t. if is_some t then [] else (part_of d).whole id) (text-same d) ∙ ap (λ b. if b then [] else (part_of d).whole id) is

-- lists

pub list-object : (ds : List Doc) (id : Option (List ℕ)) → list_any (λ d. is_object (out-Doc d)) ds ≡ true
    → list_lines id (map part_of ds) ≡ flat_map (entry_lines id (columns (map layer_of ds))) (map part_of ds)
list-object ds id is =
    let parts = map part_of ds in
    let layers = map (λ (p : Part). p.layer) parts in
    ap (λ b. if b then flat_map (entry_lines id (columns layers)) parts else scalars_lines id (texts_of layers) ++ flat_map (nested_lines id) parts) (has_object-same ds ∙ is)
    ∙ ap (λ ls. flat_map (entry_lines id (columns ls)) parts) (layers-same ds)

pub list-plain : (ds : List Doc) (id : Option (List ℕ)) → list_any (λ d. is_object (out-Doc d)) ds ≡ false
    → list_lines id (map part_of ds) ≡ scalars_lines id (texts_of (map layer_of ds)) ++ flat_map (nested_lines id) (map part_of ds)
list-plain ds id is =
    let parts = map part_of ds in
    let layers = map (λ (p : Part). p.layer) parts in
    ap (λ b. if b then flat_map (entry_lines id (columns layers)) parts else scalars_lines id (texts_of layers) ++ flat_map (nested_lines id) parts) (has_object-same ds ∙ is)
    ∙ ap (λ ls. scalars_lines id (texts_of ls) ++ flat_map (nested_lines id) parts) (layers-same ds)

-- the lines of one more thing
pub lines_more : {X : Type 0} (f : X → List Line) (x : X) (xs : List X) (out out' : List ℕ) → out' ≡ out ++ lines_text (f x)
    → out' ++ lines_text (flat_map f xs) ≡ out ++ lines_text (flat_map f (x ∷ xs))
lines_more f x xs out out' e =
    ap (λ cs. cs ++ lines_text (flat_map f xs)) e ∙ append_assoc out (lines_text (f x)) (lines_text (flat_map f xs))
    ∙ ap (λ cs. out ++ cs) (sym (lines_text-append (f x) (flat_map f xs)))

-- the lines of a thing that has none
pub lines_none : {X : Type 0} (f : X → List Line) (x : X) (xs : List X) (out : List ℕ) → f x ≡ []
    → out ++ lines_text (flat_map f xs) ≡ out ++ lines_text (flat_map f (x ∷ xs))
lines_none f x xs out e = ap (λ ls. out ++ lines_text (ls ++ flat_map f xs)) (sym e)

-- lines behind other lines
pub lines_behind : (xs ys : List Line) (out out' : List ℕ) → out' ≡ out ++ lines_text xs → out' ++ lines_text ys ≡ out ++ lines_text (xs ++ ys)
lines_behind xs ys out out' e =
    ap (λ cs. cs ++ lines_text ys) e ∙ append_assoc out (lines_text xs) (lines_text ys) ∙ ap (λ cs. out ++ cs) (sym (lines_text-append xs ys))
