-- What shapes ask of the values of a reply.
use Rattle.std.specs.Prelude.{Bool, true, false, ◌||◌, not}
use Rattle.json_doc.specs.declared.doc.Doc.{Doc, out-Doc}
use Rattle.json_doc.specs.declared.doc.Doc.TheOpen.{Doc-F}
use Rattle.service_model.specs.declared.shape.Kind.{Kind}
use Rattle.service_model.specs.declared.shape.Kind.TheVariants as kind
use Rattle.service_model.specs.declared.shape.Shape.{Shape}

abbrev pub is_structure : Kind → Bool
is_structure kind.Structure = true
is_structure others = false

abbrev pub is_list : Kind → Bool
is_list kind.List = true
is_list others = false

abbrev pub is_map : Kind → Bool
is_map kind.Map = true
is_map others = false

-- at a scalar or a document every value passes as it is
abbrev pub passes : Shape → Bool
passes shape = shape.document || not (is_structure shape.kind || (is_list shape.kind || is_map shape.kind))

abbrev pub is_null_view : {X : Type 0} → Doc-F X → Bool
is_null_view Doc-F.Null = true
is_null_view others = false

abbrev pub is_null : Doc → Bool
is_null doc = is_null_view (out-Doc doc)

abbrev pub is_object_view : {X : Type 0} → Doc-F X → Bool
is_object_view (Doc-F.Fields ps) = true
is_object_view others = false

abbrev pub is_object : Doc → Bool
is_object doc = is_object_view (out-Doc doc)

-- the value has the kind that its shape asks for; null stands for no value of any kind
abbrev pub has_kind : {X : Type 0} → Shape → Doc-F X → Bool
has_kind shape Doc-F.Null = true
has_kind shape (Doc-F.Items xs) = passes shape || is_list shape.kind
has_kind shape (Doc-F.Fields ps) = passes shape || (is_structure shape.kind || is_map shape.kind)
has_kind shape others = passes shape
