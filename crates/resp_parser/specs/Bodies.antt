-- What the bytes of a body are read as.
use Rattle.std.specs.Prelude.{◌≡◌, ◌⊎◌, ℕ, Bool, true, false, ◌||◌, if◌then◌else◌, List, [], ◌∷◌, Option, None, Some, Result, Ok, Err}
use Rattle.std.specs.Str.{chars, IsUtf8}
use Rattle.json_doc.specs.declared.doc.Doc as doc
use Rattle.json_doc.specs.declared.doc.Doc.{Doc, out-Doc}
use Rattle.json_doc.specs.declared.doc.Doc.TheOpen.{Doc-F}
use Rattle.json_doc.specs.Grammar.{Reads}
use Rattle.service_model.specs.declared.shape.Kind.{Kind}
use Rattle.service_model.specs.declared.shape.Kind.TheVariants as kind
use Rattle.service_model.specs.declared.shape.Shape.{Shape}
use Rattle.texts.specs.declared.pairs.Pair.{Pair}
use Rattle.resp_parser.specs.Kinds.{is_structure, is_map, has_kind}
use Rattle.resp_parser.specs.Paths.{Path}
use Rattle.resp_parser.specs.Steps.{Step}

-- the document of these bytes, where they are one
abbrev pub DocumentOf : List ℕ → Option Doc → Type 0
DocumentOf bytes (Some d) = Reads bytes d
DocumentOf bytes None = (d : Doc) → Reads bytes d → ⊥

-- the text of these bytes, where they are UTF-8
abbrev pub TextOf : List ℕ → Option (List ℕ) → Type 0
TextOf bytes (Some t) = IsUtf8 bytes × (t ≡ chars bytes)
TextOf bytes None = IsUtf8 bytes → ⊥

abbrev pub object_view : Doc-F Doc → Option (List (Pair Doc))
object_view (Doc-F.Fields ps) = Some ps
object_view others = None

-- the members of what is to be an object
abbrev pub object_of : Doc → Option (List (Pair Doc))
object_of d = object_view (out-Doc d)

abbrev pub object_if : Option Doc → Option (List (Pair Doc))
object_if None = None
object_if (Some d) = object_of d

-- a fault of the whole, where there is nothing
abbrev pub or_whole : {A : Type 0} → Option A → Result A Path
or_whole None = Err []
or_whole (Some x) = Ok x

-- a body where an object is due; an empty one is the empty object
abbrev pub ObjectBody : List ℕ → Step (List (Pair Doc)) Path
ObjectBody [] answer = answer ≡ Ok []
ObjectBody (b ∷ bs) answer = (d : Option Doc) × DocumentOf (b ∷ bs) d × (answer ≡ or_whole (object_if d))

abbrev pub is_string : Kind → Bool
is_string kind.Str = true
is_string others = false

abbrev pub of_kind : Shape → Option Doc → Option Doc
of_kind shape None = None
of_kind shape (Some d) = if has_kind shape (out-Doc d) then Some d else None

-- the body of a payload in JSON, which is to have the shape's kind; an empty one is the empty object of a
-- structure or map
abbrev pub JsonPayload : Shape → List ℕ → Step Doc Path
JsonPayload shape [] answer =
    answer ≡ (if is_structure shape.kind || is_map shape.kind then Ok (doc.Fields []) else Err [])
JsonPayload shape (b ∷ bs) answer = (d : Option Doc) × DocumentOf (b ∷ bs) d × (answer ≡ or_whole (of_kind shape d))

abbrev pub string_if : Option (List ℕ) → Option Doc
string_if None = None
string_if (Some t) = Some (doc.Str t)

-- a string payload is the body as it is, in UTF-8
abbrev pub TextPayload : List ℕ → Step Doc Path
TextPayload bytes answer = (t : Option (List ℕ)) × TextOf bytes t × (answer ≡ or_whole (string_if t))

abbrev pub IsPayload : Shape → List ℕ → Step Doc Path
IsPayload shape bytes answer =
    ((is_string shape.kind ≡ true) × TextPayload bytes answer) ⊎ ((is_string shape.kind ≡ false) × JsonPayload shape bytes answer)
