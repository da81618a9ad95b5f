-- The path of the first value of the wrong kind: of a value before those in it, of members in the model's
-- order, of the entries of a map in the reply's, of items by their places.
use Rattle.std.specs.Prelude.{ℕ, ◌+◌, Bool, true, false, if◌then◌else◌, List, [], ◌∷◌, slice_get, Option, None, Some}
use Rattle.json_doc.specs.declared.doc.Doc.{Doc}
use Rattle.json_doc.specs.declared.doc.Doc.TheOpen.{Doc-F}
use Rattle.json_doc.specs.declared.doc.Doc.TheFolds.{fold-Doc}
use Rattle.service_model.specs.declared.shape.Member.{Member}
use Rattle.service_model.specs.declared.shape.Shape.{Shape}
use Rattle.service_model.specs.declared.shape.ShapeId.{ShapeId}
use Rattle.texts.specs.declared.pairs.Pair.{Pair}
use Rattle.texts.specs.Keys.{value_at}
use Rattle.resp_parser.specs.Kept.{unknown_tag}
use Rattle.resp_parser.specs.Kinds.{is_map, passes, has_kind}
use Rattle.resp_parser.specs.Paths.{Path, to_name, to_item, under, first_of}

-- whether a value is null, and its first fault at a shape
pub record Judge : Type 0 where
  pub is_null : Bool
  pub fault : Option ShapeId → Option Path

abbrev pub items_fault : Option ShapeId → ℕ → List Judge → Option Path
items_fault item n [] = None
items_fault item n (judge ∷ judges) = first_of (under (to_item n) (judge.fault item)) (items_fault item (n + 1) judges)

abbrev pub entries_fault : Option ShapeId → List (Pair Judge) → Option Path
entries_fault item [] = None
entries_fault item (p ∷ ps) = first_of (under (to_name p.key) (p.value.fault item)) (entries_fault item ps)

abbrev pub member_fault : Member → Option Judge → Option Path
member_fault m None = None
member_fault m (Some judge) = under (to_name m.name) (judge.fault (Some m.shape))

abbrev pub members_fault : List (Pair Judge) → List Member → Option Path
members_fault ps [] = None
members_fault ps (m ∷ ms) = first_of (member_fault m (value_at m.wire ps)) (members_fault ps ms)

-- a union of one member that the model doesn't know has no parts to judge
abbrev pub structure_fault : Shape → List (Pair Judge) → Option (List ℕ) → Option Path
structure_fault shape ps None = members_fault ps shape.members
structure_fault shape ps (Some tag) = None

abbrev pub fields_fault : Shape → List (Pair Judge) → Option Path
fields_fault shape ps =
    if is_map shape.kind then entries_fault shape.item ps
    else structure_fault shape ps (unknown_tag (λ judge. judge.is_null) shape ps)

abbrev pub inside_fault : Shape → Doc-F Judge → Option Path
inside_fault shape (Doc-F.Items judges) = items_fault shape.item 0 judges
inside_fault shape (Doc-F.Fields ps) = fields_fault shape ps
inside_fault shape others = None

abbrev pub kind_fault : Shape → Doc-F Judge → Option Path
kind_fault shape value = if has_kind shape value then (if passes shape then None else inside_fault shape value) else Some []

abbrev pub shape_fault : Doc-F Judge → Option Shape → Option Path
shape_fault value None = None
shape_fault value (Some shape) = kind_fault shape value

abbrev pub wanted_fault : List Shape → Doc-F Judge → Option ShapeId → Option Path
wanted_fault shapes value None = None
wanted_fault shapes value (Some id) = shape_fault value (slice_get shapes id.0)

abbrev pub is_nothing : Doc-F Judge → Bool
is_nothing Doc-F.Null = true
is_nothing others = false

abbrev pub judge_step : List Shape → Doc-F Judge → Judge
judge_step shapes value = record { is_null = is_nothing value; fault = wanted_fault shapes value }

abbrev pub judge_of : List Shape → Doc → Judge
judge_of shapes = fold-Doc Judge (judge_step shapes)

-- the first fault of a whole value at a shape
abbrev pub fault_of : List Shape → Doc → ShapeId → Option Path
fault_of shapes value id = (judge_of shapes value).fault (Some id)
