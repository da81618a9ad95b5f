-- The shapes of a model by their names, with what a reference to a shape needs to know of it. A
-- shape's number is its place.
use Rattle.std.specs.Prelude.{ℕ, Bool, true, false, List, map, position, slice_get, Option, None, Some, option_map, option_and_then, Result, Ok, bytes_eq, codes}
use Rattle.std.specs.Map.{lookup}
use Rattle.json_doc.specs.declared.doc.Doc.{Doc}
use Rattle.json_doc.specs.declared.doc.Doc.TheOpen.{Doc-F}
use Rattle.json_doc.specs.declared.doc.Doc.TheViews.{out-Doc}
use Rattle.texts.specs.Keys.{value_at}
use Rattle.model_files.specs.declared.fault.ModelFault.{ModelFault}
use Rattle.model_files.specs.declared.fault.ModelFault.TheVariants.{UnknownShape, WrongKind}
use Rattle.model_files.specs.declared.fault.Place.TheVariants.{At}
use Rattle.service_model.specs.declared.numbering.Outline.{Outline}
use Rattle.service_model.specs.declared.shape.Kind.{Kind}
use Rattle.service_model.specs.declared.shape.Kind.TheVariants as kind
use Rattle.service_model.specs.declared.shape.ShapeId.{ShapeId}
use Rattle.service_model.specs.Choices.{kind_named}
use Rattle.model_files.specs.Faults.{or_fault, demand}
use Rattle.texts.specs.Calls.{◌>>=◌}
use Rattle.model_files.specs.Reading.{Fields, fields_of, text_at}

abbrev pub value_in_view : List ℕ → Doc-F Doc → Option Doc
value_in_view key (Doc-F.Fields fields) = value_at key fields
value_in_view key _ = None

-- what stands at a key of what may be an object
unfoldable pub value_in : List ℕ → Doc → Option Doc
value_in key doc = value_in_view key (out-Doc doc)

abbrev pub text_in_view : Doc-F Doc → Option (List ℕ)
text_in_view (Doc-F.Str text) = Some text
text_in_view _ = None

-- a document that may be a text
unfoldable pub text_if : Doc → Option (List ℕ)
text_if doc = text_in_view (out-Doc doc)

-- the text at a key of what may be an object
abbrev pub text_in : List ℕ → Doc → Option (List ℕ)
text_in key doc = option_and_then text_if (value_in key doc)

-- the kind of a shape, where it can be read
abbrev pub kind_of : Doc → Option Kind
kind_of doc = option_and_then kind_named (text_in (codes "type") doc)

-- the shape that is named at a key of a shape
abbrev pub named_at : List ℕ → Doc → Option (List ℕ)
named_at key doc = option_and_then (text_in (codes "shape")) (value_in key doc)

-- the shape that a list's `member` or a map's `value` names
abbrev pub item_of : Option Kind → Doc → Option (List ℕ)
item_of (Some kind.List) doc = named_at (codes "member") doc
item_of (Some kind.Map) doc = named_at (codes "value") doc
item_of _ doc = None

unfoldable pub outline_of : Doc → Outline
outline_of doc = record { kind = kind_of doc; item = item_of (kind_of doc) doc }

abbrev pub Names : Type 0
Names = List (List ℕ × Outline)

abbrev pub names_of : Fields → Names
names_of shapes = map (λ p. (p.key, outline_of p.value)) shapes

-- the number of a name
abbrev pub number_of : Names → List ℕ → Option ℕ
number_of names name = position (bytes_eq name) (map (λ e. e.0) names)

-- what is known of the shape with a number
abbrev pub outline_at : Names → ShapeId → Option Outline
outline_at names id = option_map (λ e. e.1) (slice_get names id.0)

-- the kind of the shape with a number, where it can be read
abbrev pub kind_at : Names → ShapeId → Option Kind
kind_at names id = option_and_then (λ outline. outline.kind) (outline_at names id)

-- what is known of what a list holds or a map has at its keys
abbrev pub item_outline : Names → Outline → Option Outline
item_outline names outline = option_and_then (λ name. lookup (bytes_eq name) names) outline.item

-- the shape that an object names at `shape`
unfoldable pub reference : Names → Fields → Result ShapeId ModelFault
reference names fields = do
  name ← text_at (codes "shape") fields
  number ← or_fault (UnknownShape (At (codes "shape"))) (number_of names name)
  Ok (record { 0 = number })

unfoldable pub reference_in : Names → Doc → Result ShapeId ModelFault
reference_in names doc = do
  fields ← fields_of doc
  reference names fields

abbrev pub is_structure : Option Kind → Bool
is_structure (Some kind.Structure) = true
is_structure _ = false

abbrev pub is_string : Option Kind → Bool
is_string (Some kind.Str) = true
is_string _ = false

-- the structure that is named at `shape`
unfoldable pub structure_in : Names → Doc → Result ShapeId ModelFault
structure_in names doc = do
  id ← reference_in names doc
  demand (is_structure (kind_at names id)) (WrongKind (At (codes "shape"))) (Ok id)

-- the string that is named at `shape`
unfoldable pub string_in : Names → Doc → Result ShapeId ModelFault
string_in names doc = do
  id ← reference_in names doc
  demand (is_string (kind_at names id)) (WrongKind (At (codes "shape"))) (Ok id)
