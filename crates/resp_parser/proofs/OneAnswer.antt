-- A reply has one answer.
use Rattle.std.proofs.Common.{◌≡◌, ◌⊎◌, inl, inr, ℕ, ◌<◌, ◌≤◌, Bool, true, false, List, [], ◌∷◌, Option, None, Some, Result, Ok, Err, refl, sym, ap, subst, ◌∙◌, arith}
use Rattle.std.specs.Prelude.{ℤ, pos, slice_get, encode_utf8_all, codes, nat_lt, ◌&&◌}
use Rattle.std.specs.Option.{unwrap_or}
use Rattle.std.specs.Str.{chars}
use Rattle.base64.specs.GeneralPurpose.{decode_of}
use Rattle.base64.specs.Engines.{standard}
use Rattle.aws_world.specs.declared.message.Reply.{Reply}
use Rattle.aws_world.specs.Headers.{header_of}
use Rattle.json_doc.specs.declared.decimal.Decimal.{Decimal}
use Rattle.json_doc.specs.declared.doc.Doc as doc
use Rattle.json_doc.specs.declared.doc.Doc.{Doc}
use Rattle.json_doc.specs.DecimalValue.{signed}
use Rattle.json_doc.specs.Grammar.{Reads}
use Rattle.json_doc.proofs.Complete.{text_complete}
use Rattle.json_doc.proofs.Decimals.{Decimal-same}
use Rattle.json_doc.proofs.Once.{text_once}
use Rattle.json_doc.proofs.Signed.{signed-size, sign-from_signed}
use Rattle.service_model.specs.declared.metadata.Protocol.{Protocol}
use Rattle.service_model.specs.declared.metadata.Protocol.TheVariants.{Json, RestJson, Other}
use Rattle.service_model.specs.declared.model.Table.{Table}
use Rattle.service_model.specs.declared.operation.Operation.{Operation}
use Rattle.service_model.specs.declared.shape.Kind.{Kind}
use Rattle.service_model.specs.declared.shape.Kind.TheVariants as kind
use Rattle.service_model.specs.declared.shape.Location.{Location}
use Rattle.service_model.specs.declared.shape.Location.TheVariants as location
use Rattle.service_model.specs.declared.shape.Member.{Member}
use Rattle.service_model.specs.declared.shape.Shape.{Shape}
use Rattle.service_model.specs.declared.shape.ShapeId.{ShapeId}
use Rattle.texts.specs.declared.pairs.Pair.{Pair}
use Rattle.texts.specs.Keys.{value_at}
use Rattle.resp_parser.specs.declared.fault.ReplyFault.{ReplyFault}
use Rattle.resp_parser.specs.declared.fault.ReplyFault.TheVariants.{Service}
use Rattle.resp_parser.specs.declared.fault.ServiceError.{ServiceError}
use Rattle.resp_parser.specs.Bodies.{DocumentOf, TextOf, ObjectBody, TextPayload, JsonPayload, IsPayload, object_if, or_whole, of_kind, string_if}
use Rattle.resp_parser.specs.Errors.{IsError, IsMessage, code_of, is_object_if, object_message}
use Rattle.resp_parser.specs.FirstFault.{fault_of}
use Rattle.resp_parser.specs.Headers.{Decodes, HeaderOf, HeaderValue, IsHeaderText, IsNumber, IsNumberOr, JsonHeader, TextHeader, decoded_if, whole_of}
use Rattle.resp_parser.specs.Kept.{kept_of, pair_of}
use Rattle.resp_parser.specs.Members.{AreMembers, IsStatus, MemberValue, PayloadBody, PlacedValue, RestBody, ShapedPayload, kind_in, member_named, with_member}
use Rattle.resp_parser.specs.Parsed.{coded, coded_head, failed, good, good_head, HeadBy, HeadOutput, IsParsed, IsParsedHead, JsonOutput, MembersOutput, OutputBy, OutputOf, RestOutput, Told, told}
use Rattle.resp_parser.specs.Paths.{Path, inside, to_name, unless}
use Rattle.resp_parser.specs.Steps.{Step, Is, Then}
use Rattle.resp_parser.proofs.OneStep.{IsOne, is-one, then-one}

-- ---- what bytes are read as

read-same : (bytes : List ℕ) (d e : Doc) → Reads bytes d → Reads bytes e → d ≡ e
read-same bytes d e p q = let same = text_once bytes _ _ (text_complete bytes d p) (text_complete bytes e q) in cc

document-same : (bytes : List ℕ) (a b : Option Doc) → DocumentOf bytes a → DocumentOf bytes b → a ≡ b
document-same bytes None None p q = refl
document-same bytes None (Some e) p q = absurd (p e q)
document-same bytes (Some d) None p q = absurd (q d p)
document-same bytes (Some d) (Some e) p q = ap Some (read-same bytes d e p q)

text-same : (bytes : List ℕ) (a b : Option (List ℕ)) → TextOf bytes a → TextOf bytes b → a ≡ b
text-same bytes None None p q = refl
text-same bytes None (Some u) p q = absurd (p q.0)
text-same bytes (Some t) None p q = absurd (q p.0)
text-same bytes (Some t) (Some u) p q = ap Some (p.1 ∙ sym q.1)

object_body-one : (bytes : List ℕ) → IsOne (ObjectBody bytes)
object_body-one [] a b p q = p ∙ sym q
object_body-one (c ∷ cs) a b p q = p.2 ∙ ap (λ d. or_whole (object_if d)) (document-same (c ∷ cs) p.0 q.0 p.1 q.1) ∙ sym q.2

json_payload-one : (shape : Shape) (bytes : List ℕ) → IsOne (JsonPayload shape bytes)
json_payload-one shape [] a b p q = p ∙ sym q
json_payload-one shape (c ∷ cs) a b p q = p.2 ∙ ap (λ d. or_whole (of_kind shape d)) (document-same (c ∷ cs) p.0 q.0 p.1 q.1) ∙ sym q.2

text_payload-one : (bytes : List ℕ) → IsOne (TextPayload bytes)
text_payload-one bytes a b p q = p.2 ∙ ap (λ t. or_whole (string_if t)) (text-same bytes p.0 q.0 p.1 q.1) ∙ sym q.2

payload-one : (shape : Shape) (bytes : List ℕ) → IsOne (IsPayload shape bytes)
payload-one shape bytes a b (inl p) (inl q) = text_payload-one bytes a b p.1 q.1
payload-one shape bytes a b (inl p) (inr q) = let e = sym p.0 ∙ q.0 in absurd (cc)
payload-one shape bytes a b (inr p) (inl q) = let e = sym p.0 ∙ q.0 in absurd (cc)
payload-one shape bytes a b (inr p) (inr q) = json_payload-one shape bytes a b p.1 q.1

-- ---- headers

decimal-same : (d e : Decimal) → signed d.is_negative d.magnitude ≡ signed e.is_negative e.magnitude → d.scale ≡ e.scale → d ≡ e
decimal-same d e value scale =
    let left = sign-from_signed d.is_negative e.is_negative d.magnitude e.magnitude e.magnitude value d.one_zero (λ p. p) (λ z. z) in
    let right = sign-from_signed e.is_negative e.is_negative e.magnitude e.magnitude e.magnitude refl e.one_zero (λ p. p) (λ z. z) in
    Decimal-same d e (left ∙ sym right) (signed-size d.is_negative e.is_negative d.magnitude e.magnitude value) scale

number-same : (n : ℤ) (d e : Doc) → IsNumber n d → IsNumber n e → d ≡ e
number-same n d e p q = p.1 ∙ ap doc.Number (decimal-same p.0 q.0 (p.2 ∙ sym q.2) (p.3 ∙ sym q.3)) ∙ sym q.1

number_or-same : (text : List ℕ) (o : Option ℤ) (d e : Doc) → IsNumberOr text o d → IsNumberOr text o e → d ≡ e
number_or-same text None d e p q = p ∙ sym q
number_or-same text (Some n) d e p q = number-same n d e p q

header_text-same : (k : Kind) (text : List ℕ) (d e : Doc) → IsHeaderText k text d → IsHeaderText k text e → d ≡ e
header_text-same kind.Structure text d e p q = p ∙ sym q
header_text-same kind.List text d e p q = p ∙ sym q
header_text-same kind.Map text d e p q = p ∙ sym q
header_text-same kind.Str text d e p q = p ∙ sym q
header_text-same kind.Integer text d e p q = number_or-same text (whole_of (encode_utf8_all text)) d e p q
header_text-same kind.Long text d e p q = number_or-same text (whole_of (encode_utf8_all text)) d e p q
header_text-same kind.Float text d e p q = p ∙ sym q
header_text-same kind.Double text d e p q = p ∙ sym q
header_text-same kind.Boolean text d e p q = p ∙ sym q
header_text-same kind.Blob text d e p q = p ∙ sym q
header_text-same kind.Timestamp text d e p q = p ∙ sym q

text_header-one : (k : Kind) (text : List ℕ) → IsOne (TextHeader k text)
text_header-one k text (Ok None) b p q = absurd p
text_header-one k text (Err path) b p q = absurd p
text_header-one k text (Ok (Some d)) (Ok None) p q = absurd q
text_header-one k text (Ok (Some d)) (Err path) p q = absurd q
text_header-one k text (Ok (Some d)) (Ok (Some e)) p q = ap (λ x. Ok (Some x)) (header_text-same k text d e p q)

decodes-same : {E : Type 0} (r : Result (List ℕ) E) (d e : Option Doc) → Decodes r d → Decodes r e → d ≡ e
decodes-same (Ok bytes) d e p q = document-same bytes d e p q
decodes-same (Err x) d e p q = p ∙ sym q

json_header-one : (text : List ℕ) → IsOne (JsonHeader text)
json_header-one text a b p q = p.2 ∙ ap decoded_if (decodes-same (decode_of standard (encode_utf8_all text)) p.0 q.0 p.1 q.1) ∙ sym q.2

header_of-one : (is_json : Bool) (k : Kind) (text : List ℕ) → IsOne (HeaderOf is_json k text)
header_of-one true k text = json_header-one text
header_of-one false k text = text_header-one k text

header_value-one : (is_json : Bool) (k : Kind) (o : Option (List ℕ)) → IsOne (HeaderValue is_json k o)
header_value-one is_json k None a b p q = p ∙ sym q
header_value-one is_json k (Some text) a b p q = header_of-one is_json k text a b p q

-- ---- members of rest-json

status-one : (status : ℕ) → IsOne (IsStatus status)
status-one status (Ok None) b p q = absurd p
status-one status (Err path) b p q = absurd p
status-one status (Ok (Some d)) (Ok None) p q = absurd q
status-one status (Ok (Some d)) (Err path) p q = absurd q
status-one status (Ok (Some d)) (Ok (Some e)) p q = ap (λ x. Ok (Some x)) (number-same (pos status) d e p q)

placed-one : (shapes : List Shape) (reply : Reply) (payload : Option (List ℕ)) (value : Option Doc) (m : Member) (l : Option Location) → IsOne (PlacedValue shapes reply payload value m l)
placed-one shapes reply payload value m None a b p q = p ∙ sym q
placed-one shapes reply payload value m (Some location.Uri) a b p q = p ∙ sym q
placed-one shapes reply payload value m (Some location.Querystring) a b p q = p ∙ sym q
placed-one shapes reply payload value m (Some location.Header) a b p q =
    header_value-one m.json_value (kind_in (slice_get shapes m.shape.0)) (header_of m.wire reply.headers) a b p q
placed-one shapes reply payload value m (Some location.Headers) a b p q = p ∙ sym q
placed-one shapes reply payload value m (Some location.StatusCode) a b p q = status-one reply.status a b p q

member-one : (shapes : List Shape) (reply : Reply) (payload : Option (List ℕ)) (ps : List (Pair Doc)) (m : Member) → IsOne (MemberValue shapes reply payload ps m)
member-one shapes reply payload ps m a b p q =
    p.2 ∙ ap (inside (to_name m.name)) (placed-one shapes reply payload (value_at m.wire ps) m m.location p.0 q.0 p.1 q.1) ∙ sym q.2

members-one : (shapes : List Shape) (reply : Reply) (payload : Option (List ℕ)) (ps : List (Pair Doc)) (ms : List Member) → IsOne (AreMembers shapes reply payload ps ms)
members-one shapes reply payload ps [] = is-one (Ok [])
members-one shapes reply payload ps (m ∷ ms) =
    then-one (MemberValue shapes reply payload ps m) (λ value. Then (AreMembers shapes reply payload ps ms) (λ others. Is (Ok (with_member m value others))))
    (member-one shapes reply payload ps m)
    (λ value. then-one (AreMembers shapes reply payload ps ms) (λ others. Is (Ok (with_member m value others)))
    (members-one shapes reply payload ps ms) (λ others. is-one (Ok (with_member m value others))))

shaped-one : (m : Member) (shape : Option Shape) (bytes : List ℕ) → IsOne (ShapedPayload m shape bytes)
shaped-one m None bytes = is-one (Ok [])
shaped-one m (Some shape) bytes =
    then-one (IsPayload shape bytes) (λ d. Is (Ok (pair_of m.wire d ∷ []))) (payload-one shape bytes) (λ d. is-one (Ok (pair_of m.wire d ∷ [])))

payload_body-one : (shapes : List Shape) (m : Option Member) (bytes : List ℕ) → IsOne (PayloadBody shapes m bytes)
payload_body-one shapes None bytes a b p q = p ∙ sym q
payload_body-one shapes (Some m) bytes a b p q = shaped-one m (slice_get shapes m.shape.0) bytes a b p q

rest_body-one : (shapes : List Shape) (shape : Shape) (payload : Option (List ℕ)) (bytes : List ℕ) → IsOne (RestBody shapes shape payload bytes)
rest_body-one shapes shape None bytes a b p q = object_body-one bytes a b p q
rest_body-one shapes shape (Some name) bytes a b p q = payload_body-one shapes (member_named name shape.members) bytes a b p q

-- ---- whole outputs

members_output-one : (shapes : List Shape) (shape : Shape) (reply : Reply) (ps : List (Pair Doc)) → IsOne (MembersOutput shapes shape reply ps)
members_output-one shapes shape reply ps =
    then-one (AreMembers shapes reply shape.payload ps shape.members) (λ members. Is (Ok (doc.Fields members)))
    (members-one shapes reply shape.payload ps shape.members) (λ members. is-one (Ok (doc.Fields members)))

rest-one : (shapes : List Shape) (shape : Option Shape) (reply : Reply) → IsOne (RestOutput shapes shape reply)
rest-one shapes None reply = is-one (Ok (doc.Fields []))
rest-one shapes (Some shape) reply =
    then-one (RestBody shapes shape shape.payload reply.body) (λ ps. MembersOutput shapes shape reply ps)
    (rest_body-one shapes shape shape.payload reply.body) (members_output-one shapes shape reply)

head-one : (shapes : List Shape) (shape : Option Shape) (reply : Reply) → IsOne (HeadOutput shapes shape reply)
head-one shapes None reply = is-one (Ok (doc.Fields []))
head-one shapes (Some shape) reply = members_output-one shapes shape reply []

json-one : (shapes : List Shape) (id : ShapeId) (reply : Reply) → IsOne (JsonOutput shapes id reply)
json-one shapes id reply =
    then-one (ObjectBody reply.body) (λ ps. Is (unless (fault_of shapes (doc.Fields ps) id) (kept_of shapes (doc.Fields ps) (Some id))))
    (object_body-one reply.body) (λ ps. is-one (unless (fault_of shapes (doc.Fields ps) id) (kept_of shapes (doc.Fields ps) (Some id))))

output_by-one : (protocol : Protocol) (shapes : List Shape) (id : ShapeId) (reply : Reply) → IsOne (OutputBy protocol shapes id reply)
output_by-one Json shapes id reply = json-one shapes id reply
output_by-one RestJson shapes id reply = rest-one shapes (slice_get shapes id.0) reply
output_by-one Other shapes id reply = json-one shapes id reply

head_by-one : (protocol : Protocol) (shapes : List Shape) (id : ShapeId) (reply : Reply) → IsOne (HeadBy protocol shapes id reply)
head_by-one Json shapes id reply = is-one (Ok (doc.Fields []))
head_by-one RestJson shapes id reply = head-one shapes (slice_get shapes id.0) reply
head_by-one Other shapes id reply = is-one (Ok (doc.Fields []))

output_of-one : (Read : ShapeId → Step Doc Path) (id : Option ShapeId) → ((i : ShapeId) → IsOne (Read i)) → IsOne (OutputOf Read id)
output_of-one Read None ones = is-one (Ok (doc.Fields []))
output_of-one Read (Some id) ones = ones id

told-one : (Read : Step Doc Path) → IsOne Read → IsOne (Told Read)
told-one Read one a b p q = p.2 ∙ ap told (one p.0 q.0 p.1 q.1) ∙ sym q.2

-- ---- errors

message-same : (bytes : List ℕ) (body : Option Doc) (t u : List ℕ) → IsMessage bytes body t → IsMessage bytes body u → t ≡ u
message-same bytes body t u (inl p) (inl q) = p.1 ∙ sym q.1
message-same bytes body t u (inl p) (inr q) = let e = sym p.0 ∙ q.0 in absurd (cc)
message-same bytes body t u (inr p) (inl q) = let e = sym p.0 ∙ q.0 in absurd (cc)
message-same bytes body t u (inr p) (inr q) =
    p.1.2 ∙ ap (λ text. unwrap_or text []) (text-same bytes p.1.0 q.1.0 p.1.1 q.1.1) ∙ sym q.1.2

error-same : (protocol : Protocol) (reply : Reply) (e f : ServiceError) → IsError protocol reply e → IsError protocol reply f → e ≡ f
error-same protocol reply e f p q =
    let body = document-same reply.body p.body q.body p.document q.document in
    let code = p.code ∙ ap (code_of protocol reply) body ∙ sym q.code in
    let message = message-same reply.body q.body e.message f.message (subst (λ d. IsMessage reply.body d e.message) body p.message) q.message in
    let status = p.status ∙ sym q.status in
    let retries = p.retries ∙ sym q.retries in
    λ i. record { code = code i; message = message i; status = status i; retries = retries i }

-- ---- the laws

pub one_answer : (table : Table) (op : Operation) (reply : Reply) → IsOne (IsParsed table op reply)
one_answer table op reply a b (coded p) (coded q) = refl
one_answer table op reply a b (coded p) (failed q most error) = let e = sym p ∙ q in absurd (cc)
one_answer table op reply a b (coded p) (good q few told) = let e = sym p ∙ q in absurd (cc)
one_answer table op reply a b (failed p most error) (coded q) = let e = sym p ∙ q in absurd (cc)
one_answer table op reply a b (failed {error} p most is) (failed {error = other} q more are) =
    ap (λ e. Err (Service e)) (error-same table.metadata.protocol reply error other is are)
one_answer table op reply a b (failed p most error) (good q few told) = absurd (omega (arith, most, few))
one_answer table op reply a b (good p few told) (coded q) = let e = sym p ∙ q in absurd (cc)
one_answer table op reply a b (good p few told) (failed q most error) = absurd (omega (arith, most, few))
one_answer table op reply a b (good p few is) (good q less are) =
    told-one (OutputOf (λ id. OutputBy table.metadata.protocol table.shapes id reply) op.output)
    (output_of-one (λ id. OutputBy table.metadata.protocol table.shapes id reply) op.output (λ id. output_by-one table.metadata.protocol table.shapes id reply)) a b is are

pub one_head : (table : Table) (op : Operation) (reply : Reply) → IsOne (IsParsedHead table op reply)
one_head table op reply a b (coded_head p) (coded_head q) = refl
one_head table op reply a b (coded_head p) (good_head q told) = let e = sym p ∙ q in absurd (cc)
one_head table op reply a b (good_head p told) (coded_head q) = let e = sym p ∙ q in absurd (cc)
one_head table op reply a b (good_head p is) (good_head q are) =
    told-one (OutputOf (λ id. HeadBy table.metadata.protocol table.shapes id reply) op.output)
    (output_of-one (λ id. HeadBy table.metadata.protocol table.shapes id reply) op.output (λ id. head_by-one table.metadata.protocol table.shapes id reply)) a b is are
