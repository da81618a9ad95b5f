-- The value of a shorthand tree at a shape. One value at a list is a list of one; a list or pairs at a shape without
-- parts, and a word or a list at a structure or a map, are no value. Lists of lists and documents are given as JSON alone.
use Rattle.std.specs.Prelude.{if◌then◌else◌, List, [], ◌∷◌, slice_get, Option, None, Some, Ok, Err}
use Rattle.service_model.specs.declared.shape.Kind.{Kind}
use Rattle.service_model.specs.declared.shape.Member.{Member}
use Rattle.service_model.specs.declared.shape.Shape.{Shape}
use Rattle.service_model.specs.declared.shape.ShapeId.{ShapeId}
use Rattle.shorthand.specs.declared.short.Short.{Short, out-Short}
use Rattle.shorthand.specs.declared.short.Short.TheOpen.{Short-F}
use Rattle.shorthand.specs.declared.short.Short.TheFolds.{fold-Short}
use Rattle.texts.specs.declared.pairs.Pair.{Pair}
use Rattle.texts.specs.Calls.{◌>>=◌}
use Rattle.std.specs.Prelude.{map}
use Rattle.typed_value.specs.declared.typed.Typed.{Typed}
use Rattle.typed_value.specs.declared.typed.Typed.TheVariants as typed
use Rattle.typed_value.specs.Fits.{with_values}
use Rattle.typed_value.specs.Kinds.{is_list, is_map, is_structure}
use Rattle.typed_value.specs.Places.{member_named}
use Rattle.shape_values.specs.declared.fault.ValueKind.TheVariants.{Float, ExpectedOne, NeedsJson}
use Rattle.shape_values.specs.declared.place.Place.{Place}
use Rattle.shape_values.specs.Faults.{Outcome, here, under, to_item, each_from, each_field}
use Rattle.shape_values.specs.Instants.{Instants}
use Rattle.shape_values.specs.Places.{of_shape, of_member, takes_json, is_float, holds_lists}
use Rattle.shape_values.specs.Scalars.{scalar_of}

-- a tree as it is, where no shape is known, and its value where it stands
pub record Meant : Type 0 where
  pub kept : Typed
  pub at : Place → Outcome Typed

abbrev pub as_it_is : Short-F Meant → Typed
as_it_is (Short-F.Word t) = typed.Text t
as_it_is (Short-F.Items parts) = typed.Items (map (λ part. part.kept) parts)
as_it_is (Short-F.Fields ps) = typed.Fields (with_values (λ part. part.kept) ps)

abbrev pub item_value : Option ShapeId → Meant → Outcome Typed
item_value None part = Ok part.kept
item_value (Some id) part = part.at (of_shape id)

abbrev pub member_value : Option Member → Meant → Outcome Typed
member_value None part = Ok part.kept
member_value (Some m) part = part.at (of_member m)

abbrev pub fields_value : (Pair Meant → Outcome Typed) → List (Pair Meant) → Outcome Typed
fields_value value ps = each_field value ps >>= (λ qs. Ok (typed.Fields qs))

-- what doesn't go with the kind
abbrev pub misfit : Kind → Outcome Typed
misfit kind = Err (here (if is_float kind then Float else ExpectedOne))

abbrev pub pairs_value : Shape → List (Pair Meant) → Outcome Typed
pairs_value shape ps =
    if is_map shape.kind then fields_value (λ p. item_value shape.item p.value) ps else
    if is_structure shape.kind then fields_value (λ p. member_value (member_named p.key shape.members) p.value) ps
    else misfit shape.kind

abbrev pub tree_value : Instants → Shape → Short-F Meant → Outcome Typed
tree_value instants shape (Short-F.Word t) = scalar_of instants shape.kind t
tree_value instants shape (Short-F.Items parts) = misfit shape.kind
tree_value instants shape (Short-F.Fields ps) = pairs_value shape ps

-- where no list is wanted
abbrev pub single_at : Instants → Short-F Meant → Place → Option Shape → Outcome Typed
single_at instants parts place None = Ok (as_it_is parts)
single_at instants parts place (Some shape) =
    if takes_json place shape then Err (here NeedsJson) else
    if is_list shape.kind then Err (here NeedsJson) else tree_value instants shape parts

abbrev pub one_value : Instants → List Shape → Short-F Meant → Option ShapeId → Outcome Typed
one_value instants shapes parts None = Ok (as_it_is parts)
one_value instants shapes parts (Some id) = single_at instants parts (of_shape id) (slice_get shapes id.0)

abbrev pub list_of_one : Outcome Typed → Outcome Typed
list_of_one value = under (to_item 0) value >>= (λ v. Ok (typed.Items (v ∷ [])))

abbrev pub elements_value : Instants → List Shape → Option ShapeId → Short-F Meant → Outcome Typed
elements_value instants shapes item (Short-F.Items parts) = each_from (item_value item) 0 parts >>= (λ vs. Ok (typed.Items vs))
elements_value instants shapes item others = list_of_one (one_value instants shapes others item)

abbrev pub list_value : Instants → List Shape → Shape → Short-F Meant → Outcome Typed
list_value instants shapes shape parts =
    if holds_lists shapes shape then Err (here NeedsJson) else elements_value instants shapes shape.item parts

abbrev pub shape_value : Instants → List Shape → Short-F Meant → Place → Option Shape → Outcome Typed
shape_value instants shapes parts place None = Ok (as_it_is parts)
shape_value instants shapes parts place (Some shape) =
    if takes_json place shape then Err (here NeedsJson) else
    if is_list shape.kind then list_value instants shapes shape parts else tree_value instants shape parts

abbrev pub meant_step : Instants → List Shape → Short-F Meant → Meant
meant_step instants shapes parts = record {
  kept = as_it_is parts;
  at = λ place. shape_value instants shapes parts place (slice_get shapes place.shape.0);
}

abbrev pub meant : Instants → List Shape → Short → Meant
meant instants shapes = fold-Short Meant (meant_step instants shapes)

-- the value of a tree where it stands, or its first fault
abbrev pub short_value : Instants → List Shape → Place → Short → Outcome Typed
short_value instants shapes place tree = (meant instants shapes tree).at place

-- the parts of a tree, each with its value where it stands
abbrev pub parts_of : Instants → List Shape → Short-F Short → Short-F Meant
parts_of instants shapes (Short-F.Word t) = Short-F.Word t
parts_of instants shapes (Short-F.Items trees) = Short-F.Items (map (meant instants shapes) trees)
parts_of instants shapes (Short-F.Fields ps) = Short-F.Fields (with_values (meant instants shapes) ps)

abbrev pub layer : Instants → List Shape → Short → Short-F Meant
layer instants shapes tree = parts_of instants shapes (out-Short tree)

-- the same where no list is wanted
abbrev pub single_value : Instants → List Shape → Place → Short → Outcome Typed
single_value instants shapes place tree = single_at instants (layer instants shapes tree) place (slice_get shapes place.shape.0)
