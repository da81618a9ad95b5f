-- What a reply is read as.
use Rattle.std.specs.Prelude.{◌≡◌, ℕ, ◌<◌, ◌≤◌, Bool, true, false, ◌||◌, not, List, [], Option, None, Some, Result, Ok, Err, bytes_eq, codes, slice_get}
use Rattle.std.specs.Str.{str_eq_ignore_ascii_case}
use Rattle.aws_world.specs.declared.message.Reply.{Reply}
use Rattle.aws_world.specs.Headers.{header_of}
use Rattle.json_doc.specs.declared.doc.Doc as doc
use Rattle.json_doc.specs.declared.doc.Doc.{Doc}
use Rattle.service_model.specs.declared.metadata.Protocol.{Protocol}
use Rattle.service_model.specs.declared.metadata.Protocol.TheVariants.{RestJson}
use Rattle.service_model.specs.declared.model.Table.{Table}
use Rattle.service_model.specs.declared.operation.Operation.{Operation}
use Rattle.service_model.specs.declared.shape.Shape.{Shape}
use Rattle.service_model.specs.declared.shape.ShapeId.{ShapeId}
use Rattle.texts.specs.declared.pairs.Pair.{Pair}
use Rattle.resp_parser.specs.declared.fault.ReplyFault.{ReplyFault}
use Rattle.resp_parser.specs.declared.fault.ReplyFault.TheVariants.{Service, BadBody, Compressed}
use Rattle.resp_parser.specs.declared.fault.ServiceError.{ServiceError}
use Rattle.resp_parser.specs.Bodies.{ObjectBody}
use Rattle.resp_parser.specs.Errors.{IsError}
use Rattle.resp_parser.specs.FirstFault.{fault_of}
use Rattle.resp_parser.specs.Kept.{kept_of}
use Rattle.resp_parser.specs.Members.{AreMembers, RestBody}
use Rattle.resp_parser.specs.Paths.{Path, shown, unless}
use Rattle.resp_parser.specs.Steps.{Step, Is, Then}

-- a coding that changes nothing (RFC 9110, section 8.4); an empty value names none
abbrev pub is_plain_coding : Option (List ℕ) → Bool
is_plain_coding None = true
is_plain_coding (Some coding) = bytes_eq coding [] || str_eq_ignore_ascii_case coding (codes "identity")

-- a coding changed the body
abbrev pub is_coded : Reply → Bool
is_coded reply = not (is_plain_coding (header_of (codes "content-encoding") reply.headers))

-- json: the body at the output's shape
abbrev pub JsonOutput : List Shape → ShapeId → Reply → Step Doc Path
JsonOutput shapes id reply =
    Then (ObjectBody reply.body) (λ ps. Is (unless (fault_of shapes (doc.Fields ps) id) (kept_of shapes (doc.Fields ps) (Some id))))

-- the object of the members, given that of the body
abbrev pub MembersOutput : List Shape → Shape → Reply → List (Pair Doc) → Step Doc Path
MembersOutput shapes shape reply ps =
    Then (AreMembers shapes reply shape.payload ps shape.members) (λ members. Is (Ok (doc.Fields members)))

-- rest-json: first the body, then each member from its place
abbrev pub RestOutput : List Shape → Option Shape → Reply → Step Doc Path
RestOutput shapes None reply = Is (Ok (doc.Fields []))
RestOutput shapes (Some shape) reply =
    Then (RestBody shapes shape shape.payload reply.body) (λ ps. MembersOutput shapes shape reply ps)

-- the head of a reply: the members that don't stand in the body
abbrev pub HeadOutput : List Shape → Option Shape → Reply → Step Doc Path
HeadOutput shapes None reply = Is (Ok (doc.Fields []))
HeadOutput shapes (Some shape) reply = MembersOutput shapes shape reply []

-- every protocol but rest-json is read as json, which is the only other one that can be called
abbrev pub OutputBy : Protocol → List Shape → ShapeId → Reply → Step Doc Path
OutputBy RestJson shapes id reply = RestOutput shapes (slice_get shapes id.0) reply
OutputBy _ shapes id reply = JsonOutput shapes id reply

abbrev pub HeadBy : Protocol → List Shape → ShapeId → Reply → Step Doc Path
HeadBy RestJson shapes id reply = HeadOutput shapes (slice_get shapes id.0) reply
HeadBy _ shapes id reply = Is (Ok (doc.Fields []))

-- an operation without an output gives the empty object, whatever the body holds
abbrev pub OutputOf : (ShapeId → Step Doc Path) → Option ShapeId → Step Doc Path
OutputOf Read None = Is (Ok (doc.Fields []))
OutputOf Read (Some id) = Read id

-- the document, or the path of the first fault
abbrev pub told : Result Doc Path → Result Doc ReplyFault
told (Ok d) = Ok d
told (Err path) = Err (BadBody (shown path))

abbrev pub Told : Step Doc Path → Step Doc ReplyFault
Told Read answer = (output : Result Doc Path) × Read output × (answer ≡ told output)

-- a coding that isn't plain goes before the status, an error's status before the output
pub data IsParsed (table : Table) (op : Operation) (reply : Reply) : Result Doc ReplyFault → Type 0 where
  coded : is_coded reply ≡ true → IsParsed table op reply (Err Compressed)
  failed : {error : ServiceError} → is_coded reply ≡ false → 300 ≤ reply.status → IsError table.metadata.protocol reply error → IsParsed table op reply (Err (Service error))
  good : {answer : Result Doc ReplyFault} → is_coded reply ≡ false → reply.status < 300 → Told (OutputOf (λ id. OutputBy table.metadata.protocol table.shapes id reply) op.output) answer → IsParsed table op reply answer

-- the same without the body
pub data IsParsedHead (table : Table) (op : Operation) (reply : Reply) : Result Doc ReplyFault → Type 0 where
  coded_head : is_coded reply ≡ true → IsParsedHead table op reply (Err Compressed)
  good_head : {answer : Result Doc ReplyFault} → is_coded reply ≡ false → Told (OutputOf (λ id. HeadBy table.metadata.protocol table.shapes id reply) op.output) answer → IsParsedHead table op reply answer
