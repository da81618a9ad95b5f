-- The value of a JSON document at a shape: a text at a blob is its bytes, a text or a number at a timestamp is a
-- time, a whole number at an integer or a long is one. Nothing is a fraction in binary. All else is kept as it is.
use Rattle.std.specs.Prelude.{ℕ, ℤ, if◌then◌else◌, List, map, slice_get, Option, None, Some, Ok, Err, encode_utf8_all}
use Rattle.json_doc.specs.declared.decimal.Decimal.{Decimal}
use Rattle.json_doc.specs.declared.doc.Doc.{Doc}
use Rattle.json_doc.specs.declared.doc.Doc.TheVariants as doc
use Rattle.json_doc.specs.declared.doc.Doc.TheOpen.{Doc-F}
use Rattle.json_doc.specs.declared.doc.Doc.TheFolds.{fold-Doc}
use Rattle.json_doc.specs.DecimalText.{decimal_text}
use Rattle.json_doc.specs.DecimalValue.{whole}
use Rattle.service_model.specs.declared.shape.Kind.{Kind}
use Rattle.service_model.specs.declared.shape.Member.{Member}
use Rattle.service_model.specs.declared.shape.Shape.{Shape}
use Rattle.service_model.specs.declared.shape.ShapeId.{ShapeId}
use Rattle.texts.specs.declared.pairs.Pair.{Pair}
use Rattle.texts.specs.Calls.{◌>>=◌}
use Rattle.typed_value.specs.declared.typed.Typed.{Typed}
use Rattle.typed_value.specs.declared.typed.Typed.TheVariants as typed
use Rattle.typed_value.specs.Fits.{with_values}
use Rattle.typed_value.specs.Kinds.{is_whole, is_blob, is_timestamp, is_list, is_map, is_structure}
use Rattle.typed_value.specs.Places.{member_named}
use Rattle.shape_values.specs.declared.fault.ValueKind.TheVariants.{Float}
use Rattle.shape_values.specs.declared.place.Place.{Place}
use Rattle.shape_values.specs.Faults.{Outcome, here, each_from, each_field}
use Rattle.shape_values.specs.Instants.{Instants}
use Rattle.shape_values.specs.Kept.{kept_document}
use Rattle.shape_values.specs.Places.{of_shape, of_member, takes_json, is_float}
use Rattle.shape_values.specs.Scalars.{time_value}

-- a document, and its value where it stands
pub record Meant : Type 0 where
  pub doc : Doc
  pub at : Place → Outcome Typed

-- the document of these parts
abbrev pub whole_of : Doc-F Meant → Doc
whole_of Doc-F.Null = doc.Null
whole_of (Doc-F.Flag flag) = doc.Flag flag
whole_of (Doc-F.Number n) = doc.Number n
whole_of (Doc-F.Str t) = doc.Str t
whole_of (Doc-F.Items parts) = doc.Items (map (λ part. part.doc) parts)
whole_of (Doc-F.Fields ps) = doc.Fields (with_values (λ part. part.doc) ps)

abbrev pub as_it_is : Doc-F Meant → Outcome Typed
as_it_is parts = Ok (kept_document (whole_of parts))

abbrev pub text_value : Instants → Kind → List ℕ → Outcome Typed
text_value instants kind t =
    if is_blob kind then Ok (typed.Blob (encode_utf8_all t)) else
    if is_timestamp kind then time_value (instants (encode_utf8_all t)) else Ok (typed.Text t)

abbrev pub whole_or_kept : Decimal → Option ℤ → Typed
whole_or_kept n None = typed.Number n
whole_or_kept n (Some i) = typed.Int i

abbrev pub number_value : Instants → Kind → Decimal → Outcome Typed
number_value instants kind n =
    if is_timestamp kind then time_value (instants (encode_utf8_all (decimal_text n))) else
    Ok (if is_whole kind then whole_or_kept n (whole n) else typed.Number n)

-- an item of a list or a value of a map, where its shape is known
abbrev pub item_value : Option ShapeId → Meant → Outcome Typed
item_value None part = Ok (kept_document part.doc)
item_value (Some id) part = part.at (of_shape id)

-- a member, where the structure has it
abbrev pub member_value : Option Member → Meant → Outcome Typed
member_value None part = Ok (kept_document part.doc)
member_value (Some m) part = part.at (of_member m)

abbrev pub items_value : Option ShapeId → List Meant → Outcome Typed
items_value item parts = each_from (item_value item) 0 parts >>= (λ vs. Ok (typed.Items vs))

abbrev pub fields_value : (Pair Meant → Outcome Typed) → List (Pair Meant) → Outcome Typed
fields_value value ps = each_field value ps >>= (λ qs. Ok (typed.Fields qs))

abbrev pub object_value : Shape → List (Pair Meant) → Outcome Typed
object_value shape ps =
    if is_map shape.kind then fields_value (λ p. item_value shape.item p.value) ps else
    if is_structure shape.kind then fields_value (λ p. member_value (member_named p.key shape.members) p.value) ps
    else as_it_is (Doc-F.Fields ps)

abbrev pub kind_value : Instants → Shape → Doc-F Meant → Outcome Typed
kind_value instants shape (Doc-F.Str t) = text_value instants shape.kind t
kind_value instants shape (Doc-F.Number n) = number_value instants shape.kind n
kind_value instants shape (Doc-F.Items parts) = if is_list shape.kind then items_value shape.item parts else as_it_is (Doc-F.Items parts)
kind_value instants shape (Doc-F.Fields ps) = object_value shape ps
kind_value instants shape others = as_it_is others

-- a place that takes JSON alone takes any document
abbrev pub shape_value : Instants → Doc-F Meant → Place → Option Shape → Outcome Typed
shape_value instants parts place None = as_it_is parts
shape_value instants parts place (Some shape) =
    if takes_json place shape then Ok (typed.Any (whole_of parts)) else
    if is_float shape.kind then Err (here Float) else kind_value instants shape parts

abbrev pub meant_step : Instants → List Shape → Doc-F Meant → Meant
meant_step instants shapes parts = record {
  doc = whole_of parts;
  at = λ place. shape_value instants parts place (slice_get shapes place.shape.0);
}

abbrev pub meant : Instants → List Shape → Doc → Meant
meant instants shapes = fold-Doc Meant (meant_step instants shapes)

-- the value of a document where it stands, or its first fault
abbrev pub document_value : Instants → List Shape → Place → Doc → Outcome Typed
document_value instants shapes place d = (meant instants shapes d).at place
