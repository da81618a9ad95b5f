-- The value of a page token for a shape: a document whose parts have their kinds, with members under
-- the names that are sent.
use Rattle.std.specs.Prelude.{◌≡◌, ℕ, Bool, true, false, if◌then◌else◌, List, [], ◌∷◌, map, slice_get, Option, None, Some, option_map, option_and_then, bytes_eq}
use Rattle.json_doc.specs.declared.decimal.Decimal.{Decimal}
use Rattle.json_doc.specs.declared.doc.Doc.{Doc}
use Rattle.json_doc.specs.declared.doc.Doc.TheOpen.{Doc-F}
use Rattle.json_doc.specs.declared.doc.Doc.TheFolds.{fold-Doc}
use Rattle.json_doc.specs.DecimalValue.{signed}
use Rattle.json_doc.specs.Grammar.{put_all}
use Rattle.service_model.specs.declared.shape.Member.{Member}
use Rattle.service_model.specs.declared.shape.Shape.{Shape}
use Rattle.service_model.specs.declared.shape.ShapeId.{ShapeId}
use Rattle.json_doc.specs.DecimalValue.{whole}
use Rattle.texts.specs.declared.pairs.Pair.{Pair}
use Rattle.typed_value.specs.declared.typed.Typed.{Typed}
use Rattle.typed_value.specs.declared.typed.Typed.TheVariants as typed
use Rattle.typed_value.specs.declared.typed.Typed.TheOpen.{Typed-F}
use Rattle.typed_value.specs.Kinds.{is_string, is_whole, is_boolean, is_list, is_map, is_structure}

-- the value of a document for a shape, if there is one
abbrev pub Reader : Type 0
Reader = ShapeId → Option Typed

-- all of them, if each is there
abbrev pub all_there : {X : Type 0} → List (Option X) → Option (List X)
all_there [] = Some []
all_there (x ∷ xs) = option_and_then (λ first. option_map (λ others. first ∷ others) (all_there xs)) x

abbrev pub pair_of : List ℕ → Typed → Pair Typed
pair_of key value = record { key = key; value = value }

-- the member that is sent under a name
abbrev pub member_sent_as : List ℕ → List Member → Option Member
member_sent_as wire [] = None
member_sent_as wire (m ∷ ms) = if bytes_eq m.wire wire then Some m else member_sent_as wire ms

abbrev pub member_read : Reader → Member → Option (Pair Typed)
member_read read m = option_map (pair_of m.name) (read m.shape)

abbrev pub field_read : List Member → Pair Reader → Option (Pair Typed)
field_read members p = option_and_then (member_read p.value) (member_sent_as p.key members)

abbrev pub entry_read : ShapeId → Pair Reader → Option (Pair Typed)
entry_read item p = option_map (pair_of p.key) (p.value item)

abbrev pub items_read : List Reader → ShapeId → Option Typed
items_read reads item = option_map typed.Items (all_there (map (λ read. read item) reads))

abbrev pub entries_read : List (Pair Reader) → ShapeId → Option Typed
entries_read ps item = option_map typed.Fields (all_there (map (entry_read item) ps))

-- members under their own names; where two are sent under one name, the first is meant
abbrev pub structure_read : List Member → List (Pair Reader) → Option Typed
structure_read members ps = option_map (λ qs. typed.Fields (put_all [] qs)) (all_there (map (field_read members) ps))

abbrev pub fields_read : Shape → List (Pair Reader) → Option Typed
fields_read shape ps =
    if is_map shape.kind then option_and_then (entries_read ps) shape.item else
    if is_structure shape.kind then structure_read shape.members ps else None

-- by the document's kind; null has no value, nor has anything for a blob, a timestamp, a float or a double
abbrev pub kind_read : Shape → Doc-F Reader → Option Typed
kind_read shape (Doc-F.Str t) = if is_string shape.kind then Some (typed.Text t) else None
kind_read shape (Doc-F.Number n) = if is_whole shape.kind then option_map typed.Int (whole n) else None
kind_read shape (Doc-F.Flag flag) = if is_boolean shape.kind then Some (typed.Flag flag) else None
kind_read shape (Doc-F.Items reads) = if is_list shape.kind then option_and_then (items_read reads) shape.item else None
kind_read shape (Doc-F.Fields ps) = fields_read shape ps
kind_read shape others = None

-- a document shape has no value
abbrev pub shape_read : Doc-F Reader → Shape → Option Typed
shape_read doc shape = if shape.document then None else kind_read shape doc

abbrev pub read_step : List Shape → Doc-F Reader → Reader
read_step shapes doc id = option_and_then (shape_read doc) (slice_get shapes id.0)

abbrev pub read_of : List Shape → Doc → Reader
read_of shapes = fold-Doc Reader (read_step shapes)

abbrev pub is_scalar : {X : Type 0} → Typed-F X → Bool
is_scalar (Typed-F.Text t) = true
is_scalar (Typed-F.Int n) = true
is_scalar (Typed-F.Number n) = true
is_scalar (Typed-F.Flag flag) = true
is_scalar others = false

-- a document is the same scalar
abbrev pub IsScalarOf : Typed-F Typed → Doc-F Doc → Type 0
IsScalarOf (Typed-F.Text t) doc = doc ≡ Doc-F.Str t
IsScalarOf (Typed-F.Int n) doc = (m : Decimal) × (doc ≡ Doc-F.Number m) × (signed m.is_negative m.magnitude ≡ n) × (m.scale ≡ 0)
IsScalarOf (Typed-F.Number n) doc = doc ≡ Doc-F.Number n
IsScalarOf (Typed-F.Flag flag) doc = doc ≡ Doc-F.Flag flag
IsScalarOf others doc = ⊥
