-- The document of a reply within the limits of an exchange has short lists.
use Rattle.std.proofs.Common.{◌≡◌, inl, inr, ℕ, ◌≤◌, ◌^◌, Bool, true, false, ◌||◌, if◌then◌else◌, List, [], ◌∷◌, length, Option, None, Some, Result, Ok, Err, refl, subst, arith}
use Rattle.std.specs.Prelude.{pos, slice_get, bytes_eq, sum_by}
use Rattle.aws_world.specs.declared.message.Reply.{Reply}
use Rattle.aws_world.specs.Headers.{header_of}
use Rattle.json_doc.specs.declared.doc.Doc as doc
use Rattle.json_doc.specs.declared.doc.Doc.{Doc, out-Doc}
use Rattle.json_doc.specs.declared.doc.Doc.TheOpen.{Doc-F}
use Rattle.service_model.specs.declared.metadata.Protocol.{Protocol}
use Rattle.service_model.specs.declared.metadata.Protocol.TheVariants.{Json, RestJson, Other}
use Rattle.service_model.specs.declared.model.Table.{Table}
use Rattle.service_model.specs.declared.operation.Operation.{Operation}
use Rattle.service_model.specs.declared.shape.Location.{Location}
use Rattle.service_model.specs.declared.shape.Location.TheVariants as location
use Rattle.service_model.specs.declared.shape.Member.{Member}
use Rattle.service_model.specs.declared.shape.Shape.{Shape}
use Rattle.service_model.specs.declared.shape.ShapeId.{ShapeId}
use Rattle.texts.specs.declared.pairs.Pair.{Pair}
use Rattle.texts.specs.Keys.{value_at}
use Rattle.resp_parser.specs.declared.fault.ReplyFault.{ReplyFault}
use Rattle.resp_parser.specs.Bodies.{DocumentOf, IsPayload, JsonPayload, ObjectBody, object_if, object_view, of_kind, or_whole, string_if}
use Rattle.resp_parser.specs.FirstFault.{fault_of}
use Rattle.resp_parser.specs.Headers.{headers_behind}
use Rattle.resp_parser.specs.Kept.{kept_of, pair_of}
use Rattle.resp_parser.specs.Kinds.{has_kind, is_map, is_null, is_structure}
use Rattle.resp_parser.specs.Laws.{ListsAreShort}
use Rattle.resp_parser.specs.Members.{AreMembers, MemberValue, PayloadBody, PlacedValue, RestBody, ShapedPayload, is_read, kept_value, kind_in, member_named, with_member}
use Rattle.resp_parser.specs.Parsed.{coded, coded_head, failed, good, good_head, HeadBy, HeadOutput, IsParsed, IsParsedHead, JsonOutput, MembersOutput, OutputBy, OutputOf, RestOutput, told}
use Rattle.resp_parser.specs.Paths.{Path, inside, to_name, unless}
use Rattle.resp_parser.specs.Steps.{Step, Is, Then}
use Rattle.resp_parser.proofs.ShortHeaders.{behind-short, header-short, number-short, size, value-size}
use Rattle.resp_parser.proofs.ShortKept.{kept-short}
use Rattle.resp_parser.proofs.ShortLists.{IsShort, AreShortFields, short-Fields, short-Str, view-short}
use Rattle.resp_parser.proofs.ShortReads.{reads-short}

-- what comes of two steps that aren't refused
then-ok : {A B E : Type 0} (First : Step A E) (Second : A → Step B E) (y : B) → Then First Second (Ok y) → (x : A) × First (Ok x) × Second x (Ok y)
then-ok First Second y (inl p) = let e = p.2 in absurd (cc)
then-ok First Second y (inr p) = p

-- what two answers hold that are one
ok-same : {A E : Type 0} (x y : A) (answer : Result A E) → answer ≡ Ok x → answer ≡ Ok y → x ≡ y
ok-same x y answer p q = cc

module _ (most : ℕ) (many : 300000 ≤ most) where
  abbrev ShortIf : Option Doc → Type 0
  ShortIf None = Unit {0}
  ShortIf (Some d) = IsShort most d

  found : (key : List ℕ) (ps : List (Pair Doc)) → AreShortFields most ps → ShortIf (value_at key ps)
  found key [] all = tt
  found key (p ∷ ps) all =
      elim (bytes_eq p.key key) as (λ b. ShortIf (if b then Some p.value else value_at key ps)) [ true ↦ all.0 | false ↦ found key ps all.1 ]

  -- ---- bodies

  viewed : (x : Doc) (view : Doc-F Doc) (ps : List (Pair Doc)) (answer : Result (List (Pair Doc)) Path) → IsShort most x → out-Doc x ≡ view
      → answer ≡ or_whole (object_view view) → answer ≡ Ok ps → AreShortFields most ps
  viewed x Doc-F.Null ps answer short is p q = absurd (cc)
  viewed x (Doc-F.Flag flag) ps answer short is p q = absurd (cc)
  viewed x (Doc-F.Number n) ps answer short is p q = absurd (cc)
  viewed x (Doc-F.Str t) ps answer short is p q = absurd (cc)
  viewed x (Doc-F.Items ds) ps answer short is p q = absurd (cc)
  viewed x (Doc-F.Fields qs) ps answer short is p q =
      subst (AreShortFields most) (ok-same qs ps answer p q) (view-short most x qs is short)

  object-read : (bytes : List ℕ) (o : Option Doc) (ps : List (Pair Doc)) (answer : Result (List (Pair Doc)) Path) → length bytes ≤ most
      → DocumentOf bytes o → answer ≡ or_whole (object_if o) → answer ≡ Ok ps → AreShortFields most ps
  object-read bytes None ps answer few is p q = absurd (cc)
  object-read bytes (Some x) ps answer few is p q = viewed x (out-Doc x) ps answer (reads-short most bytes x few is) refl p q

  object-short : (bytes : List ℕ) (ps : List (Pair Doc)) → length bytes ≤ most → ObjectBody bytes (Ok ps) → AreShortFields most ps
  object-short [] ps few p = subst (AreShortFields most) (ok-same [] ps (Ok ps) p refl) tt
  object-short (b ∷ bs) ps few p = object-read (b ∷ bs) p.0 ps (Ok ps) few p.1 p.2 refl

  string-short : (o : Option (List ℕ)) (d : Doc) (answer : Result Doc Path) → answer ≡ or_whole (string_if o) → answer ≡ Ok d → IsShort most d
  string-short None d answer p q = absurd (cc)
  string-short (Some t) d answer p q = subst (IsShort most) (ok-same (doc.Str t) d answer p q) (short-Str most t)

  of-kind : (b : Bool) (x d : Doc) (answer : Result Doc Path) → IsShort most x → answer ≡ or_whole (if b then Some x else None) → answer ≡ Ok d → IsShort most d
  of-kind true x d answer short p q = subst (IsShort most) (ok-same x d answer p q) short
  of-kind false x d answer short p q = absurd (cc)

  json-read : (shape : Shape) (bytes : List ℕ) (o : Option Doc) (d : Doc) (answer : Result Doc Path) → length bytes ≤ most
      → DocumentOf bytes o → answer ≡ or_whole (of_kind shape o) → answer ≡ Ok d → IsShort most d
  json-read shape bytes None d answer few is p q = absurd (cc)
  json-read shape bytes (Some x) d answer few is p q = of-kind (has_kind shape (out-Doc x)) x d answer (reads-short most bytes x few is) p q

  empty-short : (b : Bool) (d : Doc) (answer : Result Doc Path) → answer ≡ (if b then Ok (doc.Fields []) else Err []) → answer ≡ Ok d → IsShort most d
  empty-short true d answer p q = subst (IsShort most) (ok-same (doc.Fields []) d answer p q) (short-Fields most [] tt)
  empty-short false d answer p q = absurd (cc)

  json_payload-short : (shape : Shape) (bytes : List ℕ) (d : Doc) → length bytes ≤ most → JsonPayload shape bytes (Ok d) → IsShort most d
  json_payload-short shape [] d few p = empty-short (is_structure shape.kind || is_map shape.kind) d (Ok d) p refl
  json_payload-short shape (b ∷ bs) d few p = json-read shape (b ∷ bs) p.0 d (Ok d) few p.1 p.2 refl

  payload-short : (shape : Shape) (bytes : List ℕ) (d : Doc) → length bytes ≤ most → IsPayload shape bytes (Ok d) → IsShort most d
  payload-short shape bytes d few (inl p) = string-short p.1.0 d (Ok d) p.1.2 refl
  payload-short shape bytes d few (inr p) = json_payload-short shape bytes d few p.1

  shaped-short : (m : Member) (shape : Option Shape) (bytes : List ℕ) (ps : List (Pair Doc)) → length bytes ≤ most → ShapedPayload m shape bytes (Ok ps) → AreShortFields most ps
  shaped-short m None bytes ps few p = subst (AreShortFields most) (ok-same [] ps (Ok ps) p refl) tt
  shaped-short m (Some shape) bytes ps few p =
      let steps = then-ok (IsPayload shape bytes) (λ d. Is (Ok (pair_of m.wire d ∷ []))) ps p in
      subst (AreShortFields most) (ok-same (pair_of m.wire steps.0 ∷ []) ps (Ok ps) steps.2 refl) (payload-short shape bytes steps.0 few steps.1, tt)

  payload_body-short : (shapes : List Shape) (m : Option Member) (bytes : List ℕ) (ps : List (Pair Doc)) → length bytes ≤ most → PayloadBody shapes m bytes (Ok ps) → AreShortFields most ps
  payload_body-short shapes None bytes ps few p = subst (AreShortFields most) (ok-same [] ps (Ok ps) p refl) tt
  payload_body-short shapes (Some m) bytes ps few p = shaped-short m (slice_get shapes m.shape.0) bytes ps few p

  rest_body-short : (shapes : List Shape) (shape : Shape) (payload : Option (List ℕ)) (bytes : List ℕ) (ps : List (Pair Doc)) → length bytes ≤ most
      → RestBody shapes shape payload bytes (Ok ps) → AreShortFields most ps
  rest_body-short shapes shape None bytes ps few p = object-short bytes ps few p
  rest_body-short shapes shape (Some name) bytes ps few p = payload_body-short shapes (member_named name shape.members) bytes ps few p

  -- ---- members

  unless-short : (fault : Option Path) (x d : Doc) (answer : Result Doc Path) → IsShort most x → answer ≡ unless fault x → answer ≡ Ok d → IsShort most d
  unless-short None x d answer short p q = subst (IsShort most) (ok-same x d answer p q) short
  unless-short (Some path) x d answer short p q = absurd (cc)

  unless-kept : (is_nothing : Bool) (fault : Option Path) (x d : Doc) (answer : Result (Option Doc) Path) → IsShort most x
      → answer ≡ (if is_nothing then Ok None else unless fault (Some x)) → answer ≡ Ok (Some d) → IsShort most d
  unless-kept true fault x d answer short p q = absurd (cc)
  unless-kept false (Some path) x d answer short p q = absurd (cc)
  unless-kept false None x d answer short p q = let same : x ≡ d = cc in subst (IsShort most) same short

  kept_value-short : (shapes : List Shape) (m : Member) (o : Option Doc) (d : Doc) (answer : Result (Option Doc) Path) → ShortIf o
      → answer ≡ kept_value shapes m o → answer ≡ Ok (Some d) → IsShort most d
  kept_value-short shapes m None d answer short p q = absurd (cc)
  kept_value-short shapes m (Some x) d answer short p q =
      unless-kept (is_null x) (fault_of shapes x m.shape) (kept_of shapes x (Some m.shape)) d answer (kept-short most shapes x short (Some m.shape)) p q

  read-short : (is : Bool) (shapes : List Shape) (m : Member) (o : Option Doc) (d : Doc) (answer : Result (Option Doc) Path) → ShortIf o
      → answer ≡ (if is then kept_value shapes m o else Ok None) → answer ≡ Ok (Some d) → IsShort most d
  read-short true shapes m o d answer short p q = kept_value-short shapes m o d answer short p q
  read-short false shapes m o d answer short p q = absurd (cc)

  module _ (shapes : List Shape) (reply : Reply) (fits : sum_by size reply.headers ≤ 65536) where
    placed-short : (payload : Option (List ℕ)) (o : Option Doc) (m : Member) (l : Option Location) (d : Doc) → ShortIf o
        → PlacedValue shapes reply payload o m l (Ok (Some d)) → IsShort most d
    placed-short payload o m None d short p = read-short (is_read payload m) shapes m o d (Ok (Some d)) short p refl
    placed-short payload o m (Some location.Uri) d short p = read-short (is_read payload m) shapes m o d (Ok (Some d)) short p refl
    placed-short payload o m (Some location.Querystring) d short p = read-short (is_read payload m) shapes m o d (Ok (Some d)) short p refl
    placed-short payload o m (Some location.Header) d short p =
        header-short most many m.json_value (kind_in (slice_get shapes m.shape.0)) (header_of m.wire reply.headers) d
        (λ text is. let less = value-size m.wire reply.headers text is in omega arith) p
    placed-short payload o m (Some location.Headers) d short p =
        let e = p in
        let same : doc.Fields (headers_behind m.wire reply.headers) ≡ d = cc in
        subst (IsShort most) same (behind-short most many m.wire reply.headers)
    placed-short payload o m (Some location.StatusCode) d short p = number-short most many (pos reply.status) d p

    inside-short : (payload : Option (List ℕ)) (o : Option Doc) (m : Member) (d : Doc) (placed answer : Result (Option Doc) Path) → ShortIf o
        → PlacedValue shapes reply payload o m m.location placed → answer ≡ inside (to_name m.name) placed → answer ≡ Ok (Some d) → IsShort most d
    inside-short payload o m d (Err path) answer short is p q = absurd (cc)
    inside-short payload o m d (Ok value) answer short is p q =
        placed-short payload o m m.location d short
        (subst (λ x. PlacedValue shapes reply payload o m m.location (Ok x)) (ok-same value (Some d) answer p q) is)

    module _ (payload : Option (List ℕ)) (ps : List (Pair Doc)) (all : AreShortFields most ps) where
      member-short : (m : Member) (value : Option Doc) (others : List (Pair Doc)) → MemberValue shapes reply payload ps m (Ok value) → AreShortFields most others
          → AreShortFields most (with_member m value others)
      member-short m None others is rest = rest
      member-short m (Some d) others is rest =
          (inside-short payload (value_at m.wire ps) m d is.0 (Ok (Some d)) (found m.wire ps all) is.1 is.2 refl, rest)

      members-short : (ms : List Member) (made : List (Pair Doc)) → AreMembers shapes reply payload ps ms (Ok made) → AreShortFields most made
      members-short [] made p = subst (AreShortFields most) (ok-same [] made (Ok made) p refl) tt
      members-short (m ∷ ms) made p =
          let first = then-ok (MemberValue shapes reply payload ps m) (λ value. Then (AreMembers shapes reply payload ps ms) (λ others. Is (Ok (with_member m value others)))) made p in
          let rest = then-ok (AreMembers shapes reply payload ps ms) (λ others. Is (Ok (with_member m first.0 others))) made first.2 in
          subst (AreShortFields most) (ok-same (with_member m first.0 rest.0) made (Ok made) rest.2 refl)
          (member-short m first.0 rest.0 first.1 (members-short ms rest.0 rest.1))

    -- ---- whole outputs

    empty-output : (d : Doc) (answer : Result Doc Path) → answer ≡ Ok (doc.Fields []) → answer ≡ Ok d → IsShort most d
    empty-output d answer p q = subst (IsShort most) (ok-same (doc.Fields []) d answer p q) (short-Fields most [] tt)

    output-short : (shape : Shape) (ps : List (Pair Doc)) (d : Doc) → AreShortFields most ps → MembersOutput shapes shape reply ps (Ok d) → IsShort most d
    output-short shape ps d all p =
        let steps = then-ok (AreMembers shapes reply shape.payload ps shape.members) (λ members. Is (Ok (doc.Fields members))) d p in
        subst (IsShort most) (ok-same (doc.Fields steps.0) d (Ok d) steps.2 refl)
        (short-Fields most steps.0 (members-short shape.payload ps all shape.members steps.0 steps.1))

    head-short : (shape : Option Shape) (d : Doc) → HeadOutput shapes shape reply (Ok d) → IsShort most d
    head-short None d p = empty-output d (Ok d) p refl
    head-short (Some shape) d p = output-short shape [] d tt p

    head_by-short : (protocol : Protocol) (id : ShapeId) (d : Doc) → HeadBy protocol shapes id reply (Ok d) → IsShort most d
    head_by-short Json id d p = empty-output d (Ok d) p refl
    head_by-short RestJson id d p = head-short (slice_get shapes id.0) d p
    head_by-short Other id d p = empty-output d (Ok d) p refl

    output_of-short : (Read : ShapeId → Step Doc Path) (id : Option ShapeId) (d : Doc) → ((i : ShapeId) → Read i (Ok d) → IsShort most d) → OutputOf Read id (Ok d) → IsShort most d
    output_of-short Read None d short p = empty-output d (Ok d) p refl
    output_of-short Read (Some id) d short p = short id p

    module _ (few : length reply.body ≤ most) where
      rest-short : (shape : Option Shape) (d : Doc) → RestOutput shapes shape reply (Ok d) → IsShort most d
      rest-short None d p = empty-output d (Ok d) p refl
      rest-short (Some shape) d p =
          let steps = then-ok (RestBody shapes shape shape.payload reply.body) (λ ps. MembersOutput shapes shape reply ps) d p in
          output-short shape steps.0 d (rest_body-short shapes shape shape.payload reply.body steps.0 few steps.1) steps.2

      json-short : (id : ShapeId) (d : Doc) → JsonOutput shapes id reply (Ok d) → IsShort most d
      json-short id d p =
          let steps = then-ok (ObjectBody reply.body) (λ ps. Is (unless (fault_of shapes (doc.Fields ps) id) (kept_of shapes (doc.Fields ps) (Some id)))) d p in
          unless-short (fault_of shapes (doc.Fields steps.0) id) (kept_of shapes (doc.Fields steps.0) (Some id)) d (Ok d)
          (kept-short most shapes (doc.Fields steps.0) (short-Fields most steps.0 (object-short reply.body steps.0 few steps.1)) (Some id)) steps.2 refl

      output_by-short : (protocol : Protocol) (id : ShapeId) (d : Doc) → OutputBy protocol shapes id reply (Ok d) → IsShort most d
      output_by-short Json id d p = json-short id d p
      output_by-short RestJson id d p = rest-short (slice_get shapes id.0) d p
      output_by-short Other id d p = json-short id d p

told-ok : (Read : Step Doc Path) (output : Result Doc Path) (d : Doc) (answer : Result Doc ReplyFault) → Read output → answer ≡ told output → answer ≡ Ok d → Read (Ok d)
told-ok Read (Err path) d answer is p q = absurd (cc)
told-ok Read (Ok x) d answer is p q = subst (λ y. Read (Ok y)) (ok-same x d answer p q) is

enough : 300000 ≤ 2 ^ 26
enough = omega arith

-- an answer that came, as a document
module _ (table : Table) (op : Operation) (reply : Reply) (d : Doc) (fits : sum_by size reply.headers ≤ 65536) where
  answered : (answer : Result Doc ReplyFault) → length reply.body ≤ 2 ^ 26 → answer ≡ Ok d → IsParsed table op reply answer → IsShort (2 ^ 26) d
  answered answer few is (coded p) = absurd (cc)
  answered answer few is (failed p most error) = absurd (cc)
  answered answer few is (good p less told) =
      output_of-short (2 ^ 26) enough table.shapes reply fits (λ id. OutputBy table.metadata.protocol table.shapes id reply) op.output d
      (λ id. output_by-short (2 ^ 26) enough table.shapes reply fits few table.metadata.protocol id d)
      (told-ok (OutputOf (λ id. OutputBy table.metadata.protocol table.shapes id reply) op.output) told.0 d answer told.1 told.2 is)

  head-answered : (answer : Result Doc ReplyFault) → answer ≡ Ok d → IsParsedHead table op reply answer → IsShort (2 ^ 26) d
  head-answered answer is (coded_head p) = absurd (cc)
  head-answered answer is (good_head p told) =
      output_of-short (2 ^ 26) enough table.shapes reply fits (λ id. HeadBy table.metadata.protocol table.shapes id reply) op.output d
      (λ id. head_by-short (2 ^ 26) enough table.shapes reply fits table.metadata.protocol id d)
      (told-ok (OutputOf (λ id. HeadBy table.metadata.protocol table.shapes id reply) op.output) told.0 d answer told.1 told.2 is)

pub short_lists : ListsAreShort IsParsed
short_lists table op reply d fits few is = answered table op reply d fits (Ok d) few refl is

pub short_heads : ListsAreShort IsParsedHead
short_heads table op reply d fits few is = head-answered table op reply d fits (Ok d) refl is
