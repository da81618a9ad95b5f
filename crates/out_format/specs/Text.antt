-- A document as lines of cells with tabs between them.
use Rattle.std.specs.Prelude.{ℕ, if◌then◌else◌, List, [], ◌∷◌, ◌++◌, map, Option, None, Some, option_to_list}
use Rattle.std.specs.List.{flat_map}
use Rattle.std.specs.Char.{to_ascii_uppercase}
use Rattle.json_doc.specs.declared.doc.Doc.{Doc}
use Rattle.json_doc.specs.declared.doc.Doc.TheOpen.{Doc-F}
use Rattle.texts.specs.declared.pairs.Pair.{Pair}
use Rattle.texts.specs.Joined.{joined}
use Rattle.out_format.specs.declared.cell.Cell.{Cell}
use Rattle.out_format.specs.declared.cell.Cell.TheVariants.{Key, Value}
use Rattle.out_format.specs.Cells.{cell_text}
use Rattle.out_format.specs.Layers.{Layer, scalar_text, is_scalar, is_object}
use Rattle.out_format.specs.Members.{sorted, columns, object_cells}
use Rattle.out_format.specs.Parts.{PartOf, layer_step, has_object, folded}

abbrev pub Line : Type 0
Line = List Cell

-- a part with its lines, given the key of the member in which they stand, where there is one
abbrev pub Part : Type 0
Part = PartOf (Option (List ℕ) → List Line) (List Line)

-- ASCII letters in upper case
abbrev pub upper : List ℕ → List ℕ
upper key = map to_ascii_uppercase key

-- a line, behind the key in upper case where there is one
abbrev pub behind_key : Option (List ℕ) → List Cell → Line
behind_key None cells = cells
behind_key (Some key) cells = Key (upper key) ∷ cells

-- a line of these cells, where there is one
abbrev pub line_of : Option (List ℕ) → List Cell → List Line
line_of id [] = []
line_of id (c ∷ cs) = behind_key id (c ∷ cs) ∷ []

-- an object's line has a cell for each column
abbrev pub object_lines : Option (List ℕ) → List (List ℕ) → Layer → List Line
object_lines id columns layer = line_of id (object_cells columns layer)

-- what an object's line leaves out
abbrev pub member_lines : Pair Part → List Line
member_lines p = if is_scalar p.value.layer then [] else p.value.whole (Some p.key)

abbrev pub members_lines : List (Pair Part) → List Line
members_lines ps = flat_map member_lines (sorted ps)

-- an item of a list with an object
abbrev pub entry_lines : Option (List ℕ) → List (List ℕ) → Part → List Line
entry_lines id columns part = if is_object part.layer then object_lines id columns part.layer ++ part.inner else part.whole id

-- the scalars of another list: each behind the key, or all on one line
abbrev pub scalars_lines : Option (List ℕ) → List (List ℕ) → List Line
scalars_lines (Some key) texts = map (λ text. behind_key (Some key) (Value text ∷ [])) texts
scalars_lines None texts = line_of None (map Value texts)

abbrev pub texts_of : List Layer → List (List ℕ)
texts_of layers = flat_map (λ layer. option_to_list (scalar_text layer)) layers

-- the other items of such a list
abbrev pub nested_lines : Option (List ℕ) → Part → List Line
nested_lines id part = if is_scalar part.layer then [] else part.whole id

abbrev pub list_lines : Option (List ℕ) → List Part → List Line
list_lines id parts =
    let layers = map (λ part. part.layer) parts in
    if has_object parts
    then flat_map (entry_lines id (columns layers)) parts
    else scalars_lines id (texts_of layers) ++ flat_map (nested_lines id) parts

abbrev pub inner_step : Doc-F Part → List Line
inner_step (Doc-F.Fields ps) = members_lines ps
inner_step others = []

abbrev pub lines_step : Doc-F Part → Option (List ℕ) → List Line
lines_step (Doc-F.Items parts) id = list_lines id parts
lines_step (Doc-F.Fields ps) id =
    let layer = layer_step (Doc-F.Fields ps) in
    object_lines id (columns (layer ∷ [])) layer ++ members_lines ps
lines_step scalar id = scalars_lines None (option_to_list (scalar_text scalar))

abbrev pub part_of : Doc → Part
part_of = folded lines_step inner_step

-- cells with a tab between each two, and a line end
abbrev pub line_text : Line → List ℕ
line_text cells = joined (9 ∷ []) (map cell_text cells) ++ 10 ∷ []

abbrev pub lines_text : List Line → List ℕ
lines_text lines = flat_map line_text lines

abbrev pub text_of : Doc → List ℕ
text_of doc = lines_text ((part_of doc).whole None)
