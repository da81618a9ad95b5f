-- The document of a value, where it stands in a body: members under the names that are sent, bytes in base64,
-- times as seconds since 1970 unless the model says otherwise.
use Rattle.std.specs.Prelude.{ℕ, ℤ, Bool, ◌||◌, is_none, if◌then◌else◌, List, [], ◌∷◌, map, slice_get, Option, None, Some}
use Rattle.std.specs.List.{flat_map}
use Rattle.json_doc.specs.declared.doc.Doc.{Doc}
use Rattle.json_doc.specs.declared.doc.Doc.TheVariants as doc
use Rattle.json_doc.specs.Grammar.{put_all}
use Rattle.service_model.specs.declared.shape.Member.{Member}
use Rattle.service_model.specs.declared.shape.Shape.{Shape}
use Rattle.service_model.specs.declared.shape.ShapeId.{ShapeId}
use Rattle.service_model.specs.declared.shape.TimeForm.{TimeForm}
use Rattle.service_model.specs.declared.shape.TimeForm.TheVariants as form
use Rattle.texts.specs.Keys.{value_at}
use Rattle.texts.specs.declared.pairs.Pair.{Pair}
use Rattle.time_texts.specs.Texts.{unix_seconds}
use Rattle.typed_value.specs.declared.typed.Typed.{Typed}
use Rattle.typed_value.specs.declared.typed.Typed.TheOpen.{Typed-F}
use Rattle.typed_value.specs.declared.typed.Typed.TheFolds.{fold-Typed}
use Rattle.typed_value.specs.Kinds.{is_map}
use Rattle.typed_value.specs.Places.{member_named}
use Rattle.value_texts.specs.declared.slot.Slot.{Slot}
use Rattle.value_texts.specs.Scalars.{base64_text, moment_text}
use Rattle.value_texts.specs.Slots.{slot_of_shape, slot_of_member, form_at}
use Rattle.value_texts.specs.WholeNumbers.{whole_document}

-- the document of a value, given where it stands
abbrev pub Maker : Type 0
Maker = Slot → Doc

abbrev pub field : List ℕ → Doc → Pair Doc
field key value = record { key = key; value = value }

-- times are numbers only as seconds since 1970
abbrev pub moment_document : TimeForm → ℤ → Doc
moment_document form.Unix t = whole_document (unix_seconds t)
moment_document form.Rfc822 t = doc.Str (moment_text form.Rfc822 t)
moment_document form.Iso8601 t = doc.Str (moment_text form.Iso8601 t)

-- an item of a list or a value of a map
abbrev pub item_document : Option ShapeId → Maker → Doc
item_document None make = doc.Null
item_document (Some id) make = make (slot_of_shape id)

abbrev pub entry_field : Option ShapeId → Pair Maker → Pair Doc
entry_field item p = field p.key (item_document item p.value)

abbrev pub sent_as : Option Member → Maker → List (Pair Doc)
sent_as None make = []
sent_as (Some m) make = field m.wire (make (slot_of_member m)) ∷ []

-- a member under the name that is sent; what the structure doesn't have isn't sent
abbrev pub member_field : List Member → Pair Maker → List (Pair Doc)
member_field members p = sent_as (member_named p.key members) p.value

-- the entries of a map, or the members of a structure, each put: of two that are sent under one name the last
-- counts, in the first's place
abbrev pub fields_of : Shape → List (Pair Maker) → List (Pair Doc)
fields_of shape ps =
    if is_map shape.kind then map (entry_field shape.item) ps
    else put_all [] (flat_map (member_field shape.members) ps)

-- a value without parts
abbrev pub scalar_document : {X : Type 0} → TimeForm → Typed-F X → Doc
scalar_document form (Typed-F.Text t) = doc.Str t
scalar_document form (Typed-F.Int n) = whole_document n
scalar_document form (Typed-F.Number n) = doc.Number n
scalar_document form (Typed-F.Flag flag) = doc.Flag flag
scalar_document form (Typed-F.Blob bytes) = doc.Str (base64_text bytes)
scalar_document form (Typed-F.Moment t) = moment_document form t
scalar_document form (Typed-F.Any document) = document
scalar_document form others = doc.Null

-- the document of a value, given those of its parts
abbrev pub value_document : List Shape → Shape → Typed-F Maker → Slot → Doc
value_document shapes shape (Typed-F.Items makers) slot = doc.Items (map (item_document shape.item) makers)
value_document shapes shape (Typed-F.Fields ps) slot = doc.Fields (fields_of shape ps)
value_document shapes shape others slot = scalar_document (form_at shapes form.Unix slot) others

-- every number that a model holds is that of a shape
abbrev pub shape_document : List Shape → Option Shape → Typed-F Maker → Slot → Doc
shape_document shapes None value slot = doc.Null
shape_document shapes (Some shape) value slot = value_document shapes shape value slot

abbrev pub document_step : List Shape → Typed-F Maker → Maker
document_step shapes value slot = shape_document shapes (slice_get shapes slot.shape.0) value slot

abbrev pub document_of : List Shape → Typed → Maker
document_of shapes = fold-Typed Maker (document_step shapes)

-- a member with its value, where it has one
abbrev pub given_field : List Shape → Member → Option Typed → List (Pair Doc)
given_field shapes m None = []
given_field shapes m (Some v) = field m.wire (document_of shapes v (slot_of_member m)) ∷ []

-- the members of an input that have values, in the model's order
abbrev pub given_fields : List Shape → List Member → List (Pair Typed) → List (Pair Doc)
given_fields shapes members ps = flat_map (λ m. given_field shapes m (value_at m.name ps)) members

-- an object of these members
abbrev pub members_document : List Shape → List Member → List (Pair Typed) → Doc
members_document shapes members ps = doc.Fields (put_all [] (given_fields shapes members ps))

-- by `json` each member stands in the body's object, by `rest-json` those without a location
abbrev pub is_in_body : Bool → Member → Bool
is_in_body is_json m = is_json || is_none m.location
