-- What is true of all replies.
use Rattle.std.specs.Prelude.{◌≡◌, ℕ, ◌+◌, ◌<◌, ◌≤◌, ◌^◌, Bool, true, false, ◌||◌, ◌&&◌, if◌then◌else◌, IsTrue, List, length, sum_by, slice_get, Option, None, Some, Result, Ok, All, IsPermutation, bytes_eq, codes}
use Rattle.std.specs.List.{list_all}
use Rattle.aws_world.specs.declared.message.Reply.{Reply}
use Rattle.json_doc.specs.declared.doc.Doc as doc
use Rattle.json_doc.specs.declared.doc.Doc.{Doc}
use Rattle.json_doc.specs.declared.doc.Doc.TheOpen.{Doc-F}
use Rattle.json_doc.specs.declared.doc.Doc.TheFolds.{every-Doc, fold-Doc}
use Rattle.service_model.specs.declared.model.Table.{Table}
use Rattle.service_model.specs.declared.operation.Operation.{Operation}
use Rattle.service_model.specs.declared.shape.Kind.TheVariants.{Structure}
use Rattle.service_model.specs.declared.shape.Member.{Member}
use Rattle.service_model.specs.declared.shape.Shape.{Shape}
use Rattle.service_model.specs.declared.shape.ShapeId.{ShapeId}
use Rattle.service_model.specs.Kept.{HasOwnNames}
use Rattle.texts.specs.declared.pairs.Pair.{Pair}
use Rattle.texts.specs.Keys.{keys, IsDistinct}
use Rattle.resp_parser.specs.declared.fault.ReplyFault.{ReplyFault}
use Rattle.resp_parser.specs.FirstFault.{fault_of}
use Rattle.resp_parser.specs.Kept.{kept_of}
use Rattle.resp_parser.specs.Kinds.{is_map, passes, has_kind}
use Rattle.resp_parser.specs.Members.{member_named}
use Rattle.resp_parser.specs.Parsed.{IsParsed, IsParsedHead}

-- a reply has one answer
abbrev pub HasOneAnswer : Type 0
HasOneAnswer =
    (table : Table) (op : Operation) (reply : Reply) (a b : Result Doc ReplyFault)
    → IsParsed table op reply a → IsParsed table op reply b → a ≡ b

abbrev pub HasOneHead : Type 0
HasOneHead =
    (table : Table) (op : Operation) (reply : Reply) (a b : Result Doc ReplyFault)
    → IsParsedHead table op reply a → IsParsedHead table op reply b → a ≡ b

-- whether a document has the kinds of a shape at every structure, list and map
abbrev pub Test : Type 0
Test = Option ShapeId → Bool

abbrev pub member_has : Option Member → Test → Bool
member_has None test = false
member_has (Some m) test = test (Some m.shape)

-- the only key of what tells of an unknown member
abbrev pub is_unknown_form : List (Pair Test) → Bool
is_unknown_form ps = list_all (λ p. bytes_eq p.key (codes "SDK_UNKNOWN_MEMBER")) ps

abbrev pub structure_has : Shape → List (Pair Test) → Bool
structure_has shape ps =
    list_all (λ p. member_has (member_named p.key shape.members) p.value) ps || (shape.is_union && is_unknown_form ps)

abbrev pub inside_has : Shape → Doc-F Test → Bool
inside_has shape (Doc-F.Items tests) = list_all (λ test. test shape.item) tests
inside_has shape (Doc-F.Fields ps) = if is_map shape.kind then list_all (λ p. p.value shape.item) ps else structure_has shape ps
inside_has shape others = true

abbrev pub shape_has : Doc-F Test → Option Shape → Bool
shape_has value None = true
shape_has value (Some shape) = has_kind shape value && (passes shape || inside_has shape value)

abbrev pub wanted_has : List Shape → Doc-F Test → Test
wanted_has shapes value None = true
wanted_has shapes value (Some id) = shape_has value (slice_get shapes id.0)

abbrev pub has_kinds : List Shape → Doc → Test
has_kinds shapes = fold-Doc Test (wanted_has shapes)

-- What is kept of a value without a fault has the kinds of its shape, and only members that the model knows.
abbrev pub KeptHasKinds : Type 0
KeptHasKinds =
    (shapes : List Shape) (id : ShapeId) (d : Doc)
    → All (λ shape. HasOwnNames shape.members) shapes
    → fault_of shapes d id ≡ None → IsTrue (has_kinds shapes (kept_of shapes d (Some id)) (Some id))

-- The members of an object in any order give the same fault or none, and without one the same document.
abbrev pub OrderIsFree : Type 0
OrderIsFree =
    (shapes : List Shape) (shape : Shape) (id : ShapeId) (ps qs : List (Pair Doc))
    → slice_get shapes id.0 ≡ Some shape → shape.kind ≡ Structure → shape.document ≡ false
    → IsDistinct (keys ps) → IsPermutation ps qs
    → (fault_of shapes (doc.Fields ps) id ≡ fault_of shapes (doc.Fields qs) id)
    × (kept_of shapes (doc.Fields ps) (Some id) ≡ kept_of shapes (doc.Fields qs) (Some id))

-- every list in a document has fewer items than this
abbrev pub HasShortLists : ℕ → Doc-F Doc → Type 0
HasShortLists most (Doc-F.Items ds) = length ds < most
HasShortLists most others = Unit {0}

-- The lists in the document of a reply within the limits of an exchange are short, whatever it holds: its headers
-- have no more than 64 Ki characters, its body no more than 64 MiB.
abbrev pub ListsAreShort : (Table → Operation → Reply → Result Doc ReplyFault → Type 0) → Type 0
ListsAreShort May =
    (table : Table) (op : Operation) (reply : Reply) (d : Doc)
    → sum_by (λ h. length h.0 + length h.1) reply.headers ≤ 65536 → length reply.body ≤ 2 ^ 26
    → May table op reply (Ok d) → every-Doc (HasShortLists (2 ^ 26)) d
