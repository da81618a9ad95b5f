-- Words of private contracts alone; no public contract cites them: the values of arrays and objects, by the kind of
-- their shape.
use Rattle.std.specs.Prelude.{if◌then◌else◌, List, map, Ok}
use Rattle.json_doc.specs.declared.doc.Doc.{Doc}
use Rattle.service_model.specs.declared.shape.Shape.{Shape}
use Rattle.texts.specs.declared.pairs.Pair.{Pair}
use Rattle.typed_value.specs.declared.typed.Typed.{Typed}
use Rattle.typed_value.specs.declared.typed.Typed.TheVariants as typed
use Rattle.typed_value.specs.Fits.{with_values}
use Rattle.typed_value.specs.Kinds.{is_list, is_map, is_structure}
use Rattle.typed_value.specs.Places.{member_named}
use Rattle.shape_values.specs.Faults.{Outcome}
use Rattle.shape_values.specs.Instants.{Instants}
use Rattle.shape_values.specs.JsonValues.{meant, item_value, member_value, items_value, fields_value}
use Rattle.shape_values.specs.Kept.{kept_document}

abbrev pub list_due : Instants → List Shape → Shape → List Doc → Outcome Typed
list_due instants shapes shape ds =
    if is_list shape.kind then items_value shape.item (map (meant instants shapes) ds) else Ok (typed.Items (map kept_document ds))

abbrev pub object_due : Instants → List Shape → Shape → List (Pair Doc) → Outcome Typed
object_due instants shapes shape ps =
    if is_map shape.kind then fields_value (λ p. item_value shape.item p.value) (with_values (meant instants shapes) ps) else
    if is_structure shape.kind then fields_value (λ p. member_value (member_named p.key shape.members) p.value) (with_values (meant instants shapes) ps)
    else Ok (typed.Fields (with_values kept_document ps))
