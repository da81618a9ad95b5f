-- The members of a rest-json reply, each from its place: the status, a header, the headers behind a prefix,
-- or the body.
use Rattle.std.specs.Prelude.{◌≡◌, ℕ, pos, Bool, true, if◌then◌else◌, List, [], ◌∷◌, Option, None, Some, Result, Ok, Err, bytes_eq, slice_get}
use Rattle.aws_world.specs.declared.message.Reply.{Reply}
use Rattle.aws_world.specs.Headers.{header_of}
use Rattle.json_doc.specs.declared.doc.Doc as doc
use Rattle.json_doc.specs.declared.doc.Doc.{Doc}
use Rattle.service_model.specs.declared.shape.Kind.{Kind}
use Rattle.service_model.specs.declared.shape.Kind.TheVariants as kind
use Rattle.service_model.specs.declared.shape.Location.{Location}
use Rattle.service_model.specs.declared.shape.Location.TheVariants as location
use Rattle.service_model.specs.declared.shape.Member.{Member}
use Rattle.service_model.specs.declared.shape.Shape.{Shape}
use Rattle.texts.specs.declared.pairs.Pair.{Pair}
use Rattle.texts.specs.Keys.{value_at}
use Rattle.resp_parser.specs.Bodies.{ObjectBody, IsPayload}
use Rattle.resp_parser.specs.FirstFault.{fault_of}
use Rattle.resp_parser.specs.Headers.{HeaderValue, IsNumber, headers_behind}
use Rattle.resp_parser.specs.Kept.{kept_of, pair_of}
use Rattle.resp_parser.specs.Kinds.{is_null}
use Rattle.resp_parser.specs.Paths.{Path, to_name, inside, unless}
use Rattle.resp_parser.specs.Steps.{Step, Is, Then}

-- the kind of a member's shape; every number that a model holds is that of a shape
abbrev pub kind_in : Option Shape → Kind
kind_in None = kind.Str
kind_in (Some shape) = shape.kind

-- where a payload is named, it alone is read from the body
abbrev pub is_read : Option (List ℕ) → Member → Bool
is_read None m = true
is_read (Some payload) m = bytes_eq m.name payload

-- what is kept of the value in the body, where it isn't null
abbrev pub kept_value : List Shape → Member → Option Doc → Result (Option Doc) Path
kept_value shapes m None = Ok None
kept_value shapes m (Some d) =
    if is_null d then Ok None else unless (fault_of shapes d m.shape) (Some (kept_of shapes d (Some m.shape)))

-- a member of the body
abbrev pub body_value : List Shape → Option (List ℕ) → Member → Option Doc → Result (Option Doc) Path
body_value shapes payload m value = if is_read payload m then kept_value shapes m value else Ok None

abbrev pub IsStatus : ℕ → Step (Option Doc) Path
IsStatus status (Ok None) = ⊥
IsStatus status (Ok (Some d)) = IsNumber (pos status) d
IsStatus status (Err path) = ⊥

-- what comes of a member from its place, given its value in the body; labels and queries are parts of requests
-- alone
abbrev pub PlacedValue : List Shape → Reply → Option (List ℕ) → Option Doc → Member → Option Location → Step (Option Doc) Path
PlacedValue shapes reply payload value m (Some location.Header) answer =
    HeaderValue m.json_value (kind_in (slice_get shapes m.shape.0)) (header_of m.wire reply.headers) answer
PlacedValue shapes reply payload value m (Some location.Headers) answer =
    answer ≡ Ok (Some (doc.Fields (headers_behind m.wire reply.headers)))
PlacedValue shapes reply payload value m (Some location.StatusCode) answer = IsStatus reply.status answer
PlacedValue shapes reply payload value m others answer = answer ≡ body_value shapes payload m value

-- what a member gives, its path before that of a fault
abbrev pub MemberValue : List Shape → Reply → Option (List ℕ) → List (Pair Doc) → Member → Step (Option Doc) Path
MemberValue shapes reply payload ps m answer =
    (placed : Result (Option Doc) Path) × PlacedValue shapes reply payload (value_at m.wire ps) m m.location placed × (answer ≡ inside (to_name m.name) placed)

-- the entry of a member, where there is a value
abbrev pub entry_for : Member → Option Doc → List (Pair Doc)
entry_for m None = []
entry_for m (Some d) = pair_of m.name d ∷ []

abbrev pub with_member : Member → Option Doc → List (Pair Doc) → List (Pair Doc)
with_member m None others = others
with_member m (Some d) others = pair_of m.name d ∷ others

-- the members in the model's order, or the first fault
abbrev pub AreMembers : List Shape → Reply → Option (List ℕ) → List (Pair Doc) → List Member → Step (List (Pair Doc)) Path
AreMembers shapes reply payload ps [] = Is (Ok [])
AreMembers shapes reply payload ps (m ∷ ms) =
    Then (MemberValue shapes reply payload ps m)
    (λ value. Then (AreMembers shapes reply payload ps ms)
    (λ others. Is (Ok (with_member m value others))))

abbrev pub member_named : List ℕ → List Member → Option Member
member_named name [] = None
member_named name (m ∷ ms) = if bytes_eq m.name name then Some m else member_named name ms

abbrev pub ShapedPayload : Member → Option Shape → List ℕ → Step (List (Pair Doc)) Path
ShapedPayload m None bytes answer = answer ≡ Ok []
ShapedPayload m (Some shape) bytes answer = Then (IsPayload shape bytes) (λ d. Is (Ok (pair_of m.wire d ∷ []))) answer

-- an object that has the payload alone
abbrev pub PayloadBody : List Shape → Option Member → List ℕ → Step (List (Pair Doc)) Path
PayloadBody shapes None bytes answer = answer ≡ Ok []
PayloadBody shapes (Some m) bytes answer = ShapedPayload m (slice_get shapes m.shape.0) bytes answer

-- the object of a body: its own, or that of the payload alone
abbrev pub RestBody : List Shape → Shape → Option (List ℕ) → List ℕ → Step (List (Pair Doc)) Path
RestBody shapes shape None bytes answer = ObjectBody bytes answer
RestBody shapes shape (Some payload) bytes answer = PayloadBody shapes (member_named payload shape.members) bytes answer
