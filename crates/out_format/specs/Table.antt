-- A document as sections, each at a path that begins with the table's title.
use Rattle.std.specs.Prelude.{ℕ, ◌+◌, Bool, false, true, if◌then◌else◌, List, [], ◌∷◌, ◌++◌, map, filter, Option, None, Some, is_some, option_to_list}
use Rattle.std.specs.Fmt.{decimal}
use Rattle.std.specs.List.{flat_map, list_any, list_all}
use Rattle.json_doc.specs.declared.doc.Doc.{Doc}
use Rattle.json_doc.specs.declared.doc.Doc.TheOpen.{Doc-F}
use Rattle.texts.specs.declared.pairs.Pair.{Pair}
use Rattle.out_format.specs.declared.cell.Cell.{Cell}
use Rattle.out_format.specs.declared.cell.Cell.TheVariants.{Key, Value}
use Rattle.out_format.specs.declared.section.Section.{Section}
use Rattle.out_format.specs.Layers.{Layer, scalar_text, is_scalar, is_object}
use Rattle.out_format.specs.Members.{sorted, columns, object_cells}
use Rattle.out_format.specs.Parts.{PartOf, layer_step, has_object, folded}
use Rattle.out_format.specs.Sections.{sections_text}

-- a part with its sections at a path
abbrev pub Part : Type 0
Part = PartOf (List ℕ → List Section) (List ℕ → List Section)

-- PATH.KEY
abbrev pub member_path : List ℕ → List ℕ → List ℕ
member_path path key = path ++ 46 ∷ key

-- PATH[PLACE]
abbrev pub item_path : List ℕ → ℕ → List ℕ
item_path path place = path ++ (91 ∷ decimal place ++ 93 ∷ [])

-- a section with the keys of its columns as header, where there is a column
abbrev pub headed : List ℕ → List (List ℕ) → List (List Cell) → List Section
headed path [] rows = []
headed path (c ∷ cs) rows = record { path = path; header = Some (map Key (c ∷ cs)); rows = rows } ∷ []

-- the section of the objects among these, with a row for each
abbrev pub objects_sections : List ℕ → List Layer → List Section
objects_sections path layers = headed path (columns layers) (map (object_cells (columns layers)) (filter is_object layers))

-- a scalar and a list of scalars are rows of a list without objects
abbrev pub is_row : Layer → Bool
is_row (Doc-F.Items texts) = list_all is_some texts
is_row (Doc-F.Fields ps) = false
is_row scalar = true

abbrev pub row_texts : Layer → List (List ℕ)
row_texts (Doc-F.Items texts) = flat_map option_to_list texts
row_texts others = option_to_list (scalar_text others)

abbrev pub row_cells : Layer → List Cell
row_cells layer = map Value (row_texts layer)

abbrev pub has_cell : List Cell → Bool
has_cell [] = false
has_cell (c ∷ cs) = true

-- the section of the rows among these, where one of them has a cell
abbrev pub rows_sections : List ℕ → List Layer → List Section
rows_sections path layers =
    let rows = map row_cells (filter is_row layers) in
    if list_any has_cell rows then record { path = path; header = None; rows = rows } ∷ [] else []

-- what an object's section leaves out
abbrev pub member_sections : List ℕ → Pair Part → List Section
member_sections path p = if is_scalar p.value.layer then [] else p.value.whole (member_path path p.key)

abbrev pub members_sections : List ℕ → List (Pair Part) → List Section
members_sections path ps = flat_map (member_sections path) (sorted ps)

-- the sections of each of these, which stand at the places from this one on
abbrev pub numbered : {X : Type 0} → (ℕ → X → List Section) → ℕ → List X → List Section
numbered f place [] = []
numbered f place (x ∷ xs) = f place x ++ numbered f (place + 1) xs

-- what the section of a list with an object leaves out of an item
abbrev pub entry_at : List ℕ → Part → List Section
entry_at path part = if is_object part.layer then part.inner path else part.whole path

abbrev pub entry_sections : List ℕ → ℕ → Part → List Section
entry_sections path place part = entry_at (item_path path place) part

-- what the section of another list leaves out of an item
abbrev pub nested_sections : List ℕ → ℕ → Part → List Section
nested_sections path place part = if is_row part.layer then [] else part.whole (item_path path place)

abbrev pub list_sections : List ℕ → List Part → List Section
list_sections path parts =
    let layers = map (λ part. part.layer) parts in
    if has_object parts
    then objects_sections path layers ++ numbered (entry_sections path) 0 parts
    else rows_sections path layers ++ numbered (nested_sections path) 0 parts

abbrev pub inner_step : Doc-F Part → List ℕ → List Section
inner_step (Doc-F.Fields ps) path = members_sections path ps
inner_step others path = []

abbrev pub sections_step : Doc-F Part → List ℕ → List Section
sections_step (Doc-F.Items parts) path = list_sections path parts
sections_step (Doc-F.Fields ps) path = objects_sections path (layer_step (Doc-F.Fields ps) ∷ []) ++ members_sections path ps
sections_step scalar path = rows_sections path (layer_step scalar ∷ [])

abbrev pub part_of : Doc → Part
part_of = folded sections_step inner_step

abbrev pub table_of : List ℕ → Doc → List ℕ
table_of title doc = sections_text ((part_of doc).whole title)
