-- What the operations of a model that was read keep.
use Rattle.std.proofs.Common.{◌≡◌, ℕ, ◌<◌, Bool, true, false, not, ◌&&◌, ◌||◌, List, [], ◌∷◌, length, slice_get, Option, None, Some, IfSome, option_map, option_and_then, Ok, bytes_eq, codes, refl, sym, ap, subst, ◌∙◌, arith}
use Rattle.std.specs.List.{AllByRecursion, list_any, list_all}
use Rattle.std.specs.Option.{unwrap_or}
use Rattle.std.proofs.lemmas.List.Elements.{All-from_recursion}
use Rattle.std.proofs.lemmas.Option.{IfSome_then}
use lib.ListN.{length-map}
use Rattle.std.proofs.lemmas.Slice.Eq.{bytes_eq-Decides}
use Rattle.json_doc.specs.declared.doc.Doc.{Doc}
use Rattle.json_doc.specs.declared.doc.Doc.TheOpen.{Doc-F}
use Rattle.json_doc.specs.declared.doc.Doc.TheViews.{out-Doc}
use Rattle.texts.specs.declared.pairs.Pair.{Pair}
use Rattle.texts.specs.Keys.{value_at}
use Rattle.model_files.specs.declared.fault.ModelFault.TheVariants.{WrongKind}
use Rattle.model_files.specs.declared.fault.Place.TheVariants.{At}
use Rattle.model_files.specs.Faults.{inside, demand}
use Rattle.texts.specs.Calls.{◌>>=◌}
use Rattle.model_files.specs.Reading.{Fields, fields_of, text_of, flag_of, flag_in, flag_at, flag_or_false, is_true_in, needed, text_at, maybe_at, maybe_text, maybe_object, object_at}
use Rattle.model_files.proofs.Steps.{same_ok, bind_ok, inside_ok, demand_ok, fields_ok, text_ok, needed_ok}
use Rattle.service_model.specs.declared.labelled.LabelUse.{LabelUse}
use Rattle.service_model.specs.declared.labelled.LabelUse.TheVariants.{Uri, Host}
use Rattle.service_model.specs.declared.shape.Kind.{Kind}
use Rattle.service_model.specs.declared.shape.Kind.TheVariants as kind
use Rattle.service_model.specs.declared.shapes.Structure.{Structure}
use Rattle.service_model.specs.declared.shape.Location.{Location}
use Rattle.service_model.specs.declared.shape.Location.TheVariants as location
use Rattle.service_model.specs.declared.shape.Member.{Member}
use Rattle.service_model.specs.declared.shape.Shape.{Shape}
use Rattle.service_model.specs.declared.shape.ShapeId.{ShapeId}
use Rattle.service_model.specs.Admission.{members_at, members_in_maybe}
use Rattle.service_model.specs.Arguments.{kind_of}
use Rattle.service_model.specs.Kept.{IsWithin, item_kind, inner_kind, takes, IsMember, is_uri, fills_uri, fills_host, AreFilled}
use Rattle.service_model.specs.Labels.{labels}
use Rattle.service_model.specs.Locations.{is_scalar, can_stand, is_scalar_shape}
use Rattle.service_model.specs.Members.{members_of, member_of, location_of, location_in, standing, host_label_of}
use Rattle.service_model.specs.Metadata.{is_text}
use Rattle.service_model.specs.Numbering.{Names, names_of, value_in, text_in, text_if, text_in_view, number_of, kind_at, reference_in, structure_in, is_structure}
use Rattle.service_model.specs.Operations.{fields_if, fields_if_view, if_structure, members_in, input_members, is_true_maybe_in, fills_labels, text_is, has_wire_name, is_labelled, names_one, are_named, uri_of, method_and_uri, http_in, http_of, structure_maybe, structure_at, prefix_in, endpoint_prefix, endpoint_in, host_prefix_of}
use Rattle.service_model.specs.Shapes.{shapes_of, structure_if, structure_of}
use Rattle.service_model.proofs.Soundness.{structure_in_ok, reference_in_within}
use Rattle.service_model.proofs.KeptShapes.{IsReadMember, member_read, IsReference, reference_in_read, IsReadShape, shape_read, IsReadStructure, structure_read, IsKnown, known, kind_same, member_kept, or_true, true_last, value_read}

both : (a b : Bool) → (a && b) ≡ true → (a ≡ true) × (b ≡ true)
both true b e = (refl, e)
both false b e = absurd (cc)

join : (a b : Bool) → a ≡ true → b ≡ true → (a && b) ≡ true
join a b x y = ap (λ c. c && b) x ∙ y

-- the URI of an operation that was read has labels that are named
uri_named : (names : Names) (shapes fields http : Fields) (uri : List ℕ) → uri_of names shapes fields http ≡ Ok uri → are_named Uri (input_members names shapes fields) (labels uri) ≡ true
unfolding uri_of
uri_named names shapes fields http uri e =
    bind_ok (text_at (codes "requestUri") http) (λ u. demand (are_named Uri (input_members names shapes fields) (labels u)) (WrongKind (At (codes "requestUri"))) (Ok u)) uri e (λ u a is.
    let holds = demand_ok (are_named Uri (input_members names shapes fields) (labels u)) (WrongKind (At (codes "requestUri"))) (Ok u) uri is in
    ap (λ x. are_named Uri (input_members names shapes fields) (labels x)) (sym (same_ok u uri holds.1)) ∙ holds.0)

http_uri : (names : Names) (shapes fields http : Fields) (made : List ℕ × List ℕ) → method_and_uri names shapes fields http ≡ Ok made → are_named Uri (input_members names shapes fields) (labels made.1) ≡ true
unfolding method_and_uri
http_uri names shapes fields http made e =
    bind_ok (text_at (codes "method") http) (λ method. uri_of names shapes fields http >>= (λ uri. Ok (method, uri))) made e (λ method a e1.
    bind_ok (uri_of names shapes fields http) (λ uri. Ok (method, uri)) made e1 (λ uri named is.
    ap (λ x. are_named Uri (input_members names shapes fields) (labels x.1)) (sym (same_ok (method, uri) made is)) ∙ uri_named names shapes fields http uri named))

http_in_named : (names : Names) (shapes fields : Fields) (http : Option Fields) (made : List ℕ × List ℕ) → http_in names shapes fields http ≡ Ok made → are_named Uri (input_members names shapes fields) (labels made.1) ≡ true
http_in_named names shapes fields None made e = absurd (cc)
http_in_named names shapes fields (Some http) made e = http_uri names shapes fields http made (inside_ok (codes "http") (method_and_uri names shapes fields http) made e)

pub http_named : (names : Names) (shapes fields : Fields) (made : List ℕ × List ℕ) → http_of names shapes fields ≡ Ok made → are_named Uri (input_members names shapes fields) (labels made.1) ≡ true
unfolding http_of
http_named names shapes fields made e = bind_ok (maybe_object (codes "http") fields) (http_in names shapes fields) made e (λ http a is. http_in_named names shapes fields http made is)

prefix_in_named : (members : Option Fields) (found prefix : Option (List ℕ)) → prefix_in members found ≡ Ok prefix → IfSome prefix (λ p. are_named Host members (labels p) ≡ true)
prefix_in_named members None prefix e = subst (λ o. IfSome o (λ p. are_named Host members (labels p) ≡ true)) (same_ok None prefix e) tt
prefix_in_named members (Some found) prefix e =
    let holds = demand_ok (are_named Host members (labels found)) (WrongKind (At (codes "hostPrefix"))) (Ok (Some found)) prefix e in
    subst (λ o. IfSome o (λ p. are_named Host members (labels p) ≡ true)) (same_ok (Some found) prefix holds.1) holds.0

endpoint_in_named : (members endpoint : Option Fields) (prefix : Option (List ℕ)) → endpoint_in members endpoint ≡ Ok prefix → IfSome prefix (λ p. are_named Host members (labels p) ≡ true)
unfolding endpoint_prefix
endpoint_in_named members None prefix e = subst (λ o. IfSome o (λ p. are_named Host members (labels p) ≡ true)) (same_ok None prefix e) tt
endpoint_in_named members (Some endpoint) prefix e =
    bind_ok (maybe_text (codes "hostPrefix") endpoint) (prefix_in members) prefix (inside_ok (codes "endpoint") (endpoint_prefix members endpoint) prefix e) (λ found a is.
    prefix_in_named members found prefix is)

pub host_named : (names : Names) (shapes fields : Fields) (prefix : Option (List ℕ)) → host_prefix_of names shapes fields ≡ Ok prefix → IfSome prefix (λ p. are_named Host (input_members names shapes fields) (labels p) ≡ true)
unfolding host_prefix_of
host_named names shapes fields prefix e =
    bind_ok (maybe_object (codes "endpoint") fields) (endpoint_in (input_members names shapes fields)) prefix e (λ endpoint a is. endpoint_in_named (input_members names shapes fields) endpoint prefix is)

maybe_read_at : (key : List ℕ) (doc : Option Doc) (o : Option (List ℕ)) → maybe_at text_of key doc ≡ Ok o → option_and_then text_if doc ≡ o
unfolding text_if
maybe_read_at key None o e = same_ok None o e
maybe_read_at key (Some doc) o e =
    bind_ok (inside key (text_of doc)) (λ x. Ok (Some x)) o e (λ t read is.
    ap text_in_view (text_ok doc t (inside_ok key (text_of doc) t read)) ∙ same_ok (Some t) o is)

-- the text at a key, where there is one, by both ways of reading
maybe_read : (key : List ℕ) (doc : Doc) (fields : Fields) (o : Option (List ℕ)) → fields_of doc ≡ Ok fields → maybe_text key fields ≡ Ok o → text_in key doc ≡ o
unfolding maybe_text
maybe_read key doc fields o there e = ap (λ x. option_and_then text_if x) (value_read key doc fields there) ∙ maybe_read_at key (value_at key fields) o e

text_named : (text : List ℕ) (o : Option (List ℕ)) → is_text text o ≡ true → o ≡ Some text
text_named text None e = absurd (cc)
text_named text (Some found) e = ap Some ((bytes_eq-Decides found text).0 e)

standing_is : (names : Names) (id : ShapeId) (l : Location) (o : Option Location) → standing names id (Some l) ≡ Ok o → o ≡ Some l
standing_is names id l o e = sym (same_ok (Some l) o (demand_ok (can_stand names id l) (WrongKind (At (codes "location"))) (Ok (Some l)) o e).1)

-- a member that says that it stands in URIs does
stands_in_uri : (names : Names) (p : Pair Doc) (m : Member) → IsReadMember names p m → fills_labels Uri p.value ≡ true → m.location ≡ Some location.Uri
unfolding location_of
stands_in_uri names p m r e =
    bind_ok (maybe_text (codes "location") r.fields) (location_in names m.shape) m.location r.location (λ name found is.
    let text : name ≡ Some (codes "uri") = sym (maybe_read (codes "location") p.value r.fields name r.there found) ∙ text_named (codes "uri") (text_in (codes "location") p.value) e in
    standing_is names m.shape location.Uri m.location (ap (λ x. location_in names m.shape x) (sym text) ∙ is))

flag_view : (v : Doc-F Doc) (b : Bool) → flag_in v ≡ Ok b → is_true_in v ≡ b
flag_view (Doc-F.Flag f) b e = same_ok f b e
flag_view Doc-F.Null b e = absurd (cc)
flag_view (Doc-F.Str t) b e = absurd (cc)
flag_view (Doc-F.Number n) b e = absurd (cc)
flag_view (Doc-F.Items ds) b e = absurd (cc)
flag_view (Doc-F.Fields ps) b e = absurd (cc)

flag_read_at : (key : List ℕ) (doc : Option Doc) (b : Bool) → flag_or_false key doc ≡ Ok b → is_true_maybe_in doc ≡ b
unfolding flag_of
flag_read_at key None b e = same_ok false b e
flag_read_at key (Some doc) b e = flag_view (out-Doc doc) b (inside_ok key (flag_of doc) b e)

flag_read : (key : List ℕ) (doc : Doc) (fields : Fields) (b : Bool) → fields_of doc ≡ Ok fields → flag_at key fields ≡ Ok b → is_true_maybe_in (value_in key doc) ≡ b
unfolding flag_at
flag_read key doc fields b there e = ap is_true_maybe_in (value_read key doc fields there) ∙ flag_read_at key (value_at key fields) b e

-- a member that says that it stands in host prefixes does
stands_in_host : (names : Names) (p : Pair Doc) (m : Member) → IsReadMember names p m → fills_labels Host p.value ≡ true → m.host_label ≡ true
unfolding host_label_of
stands_in_host names p m r e =
    bind_ok (flag_at (codes "hostLabel") r.fields) (λ l. demand (not (l && not (is_scalar_shape names m.shape))) (WrongKind (At (codes "hostLabel"))) (Ok l)) m.host_label r.host (λ l found is.
    sym (same_ok l m.host_label (demand_ok (not (l && not (is_scalar_shape names m.shape))) (WrongKind (At (codes "hostLabel"))) (Ok l) m.host_label is).1)
    ∙ sym (flag_read (codes "hostLabel") p.value r.fields l r.there found) ∙ e)

text_is_named : (name : List ℕ) (v : Doc-F Doc) (t : List ℕ) → v ≡ Doc-F.Str t → text_is name v ≡ true → bytes_eq name t ≡ true
text_is_named name v t is e = ap (text_is name) (sym is) ∙ e

wire_at : (name : List ℕ) (p : Pair Doc) (doc : Option Doc) (wire : Option (List ℕ)) → maybe_at text_of (codes "locationName") doc ≡ Ok wire → has_wire_name name p doc ≡ true → bytes_eq name (unwrap_or wire p.key) ≡ true
wire_at name p None wire e is = ap (λ o. bytes_eq name (unwrap_or o p.key)) (sym (same_ok None wire e)) ∙ is
wire_at name p (Some doc) wire e is =
    bind_ok (inside (codes "locationName") (text_of doc)) (λ x. Ok (Some x)) wire e (λ t read made.
    ap (λ o. bytes_eq name (unwrap_or o p.key)) (sym (same_ok (Some t) wire made)) ∙ text_is_named name (out-Doc doc) t (text_ok doc t (inside_ok (codes "locationName") (text_of doc) t read)) is)

-- a label with the wire name of a member is the name under which it is sent
wire_ok : (names : Names) (name : List ℕ) (p : Pair Doc) (m : Member) → IsReadMember names p m → has_wire_name name p (value_in (codes "locationName") p.value) ≡ true → bytes_eq name m.wire ≡ true
unfolding maybe_text
wire_ok names name p m r is =
    ap (bytes_eq name) r.wire_name
    ∙ wire_at name p (value_at (codes "locationName") r.fields) r.wire r.wire_read (ap (has_wire_name name p) (sym (value_read (codes "locationName") p.value r.fields r.there)) ∙ is)

fields_found : (doc : Doc) (fields : Fields) → fields_of doc ≡ Ok fields → fields_if doc ≡ Some fields
unfolding fields_if
fields_found doc fields e = ap fields_if_view (fields_ok doc fields e)

if_structure_ok : (b : Bool) (members : Option Fields) (ps : Fields) → if_structure b members ≡ Some ps → members ≡ Some ps
if_structure_ok true members ps e = e
if_structure_ok false members ps e = absurd (cc)

type_ok : (type : Option (List ℕ)) (members : Option Fields) (ps : Fields) → option_and_then (λ k. if_structure (bytes_eq k (codes "structure")) members) type ≡ Some ps → members ≡ Some ps
type_ok None members ps e = absurd (cc)
type_ok (Some k) members ps e = if_structure_ok (bytes_eq k (codes "structure")) members ps e

object_found : (key : List ℕ) (fields pairs : Fields) → object_at key fields ≡ Ok pairs → option_and_then fields_if (value_at key fields) ≡ Some pairs
unfolding object_at
object_found key fields pairs e =
    bind_ok (needed key fields) (λ doc. inside key (fields_of doc)) pairs e (λ doc found read.
    ap (λ o. option_and_then fields_if o) (needed_ok key fields doc found) ∙ fields_found doc pairs (inside_ok key (fields_of doc) pairs read))

same_some : {A : Type 0} (x y : A) → ◌≡◌ {A = Option A} (Some x) (Some y) → x ≡ y
same_some x y e = cc

-- the members that a file has for a structure are those that were read
members_same : (doc : Doc) (fields pairs ps : Fields) → fields_of doc ≡ Ok fields → object_at (codes "members") fields ≡ Ok pairs → members_in doc ≡ Some ps → pairs ≡ ps
members_same doc fields pairs ps there at e =
    same_some pairs ps (sym (object_found (codes "members") fields pairs at) ∙ ap (λ o. option_and_then fields_if o) (sym (value_read (codes "members") doc fields there))
    ∙ type_ok (text_in (codes "type") doc) (option_and_then fields_if (value_in (codes "members") doc)) ps e)

names_one_some : (place : LabelUse) (members : Option Fields) (name : List ℕ) → names_one place members name ≡ true → (ps : Fields) × (members ≡ Some ps) × (list_any (is_labelled place name) ps ≡ true)
names_one_some place None name e = absurd (cc)
names_one_some place (Some ps) name e = (ps, refl, e)

-- each name that passes, of names that all pass
all_named_one : (test : List ℕ → Bool) (P : List ℕ → Type 0) → ((name : List ℕ) → test name ≡ true → P name) → (names : List (List ℕ)) → list_all test names ≡ true → AllByRecursion P names
all_named_one test P one [] e = tt
all_named_one test P one (name ∷ names) e = let h = both (test name) (list_all test names) e in (one name h.0, all_named_one test P one names h.1)

structure_reference : (names : Names) (doc : Doc) (id : ShapeId) → structure_in names doc ≡ Ok id → reference_in names doc ≡ Ok id
unfolding structure_in
structure_reference names doc id e =
    bind_ok (reference_in names doc) (λ i. demand (is_structure (kind_at names i)) (WrongKind (At (codes "shape"))) (Ok i)) id e (λ i there is.
    there ∙ (demand_ok (is_structure (kind_at names i)) (WrongKind (At (codes "shape"))) (Ok i) id is).1)

structure_known : (names : Names) (k : Kind) (fields : Fields) (s : Structure) → k ≡ kind.Structure → structure_if k names fields ≡ Ok s → structure_of names fields ≡ Ok s
unfolding structure_if
structure_known names k fields s is e = ap (λ x. structure_if x names fields) (sym is) ∙ e

-- the members of the shape that an input names
abbrev members_of_number : Fields → Option ℕ → Option Fields
members_of_number pairs number = option_and_then (λ n. option_and_then (λ p. members_in p.value) (slice_get pairs n)) number

abbrev members_of_name : Names → Fields → Option (List ℕ) → Option Fields
members_of_name names pairs name = option_and_then (λ t. members_of_number pairs (number_of names t)) name

abbrev members_of_input : Names → Fields → Option Doc → Option Fields
members_of_input names pairs input = option_and_then (λ doc. members_of_name names pairs (text_in (codes "shape") doc)) input

module _ (pairs : Fields) (shapes : List Shape) (read : shapes_of (names_of pairs) pairs ≡ Ok shapes) (many : length shapes ≡ length pairs) where
  uri_filled : (label : List ℕ) (p : Pair Doc) (m : Member) → member_of (names_of pairs) p ≡ Ok m → is_labelled Uri label p ≡ true → fills_uri shapes label m ≡ true
  uri_filled label p m e is =
      let r : IsReadMember (names_of pairs) p m = member_read (names_of pairs) p m e in
      let keeps : IsMember shapes m = member_kept pairs shapes read many p m e in
      let two = both (fills_labels Uri p.value) (has_wire_name label p (value_in (codes "locationName") p.value)) is in
      let stands : m.location ≡ Some location.Uri = stands_in_uri (names_of pairs) p m r two.0 in
      let scalar : is_scalar (kind_of shapes m.shape) ≡ true =
      subst (λ o. IfSome o (λ l. takes l (kind_of shapes m.shape) (item_kind shapes m.shape) (inner_kind shapes m.shape) ≡ true)) stands keeps.place in
      join (bytes_eq label m.wire) (is_uri m.location && is_scalar (kind_of shapes m.shape)) (wire_ok (names_of pairs) label p m r two.1)
      (join (is_uri m.location) (is_scalar (kind_of shapes m.shape)) (ap is_uri stands) scalar)

  host_filled : (label : List ℕ) (p : Pair Doc) (m : Member) → member_of (names_of pairs) p ≡ Ok m → is_labelled Host label p ≡ true → fills_host shapes label m ≡ true
  host_filled label p m e is =
      let r : IsReadMember (names_of pairs) p m = member_read (names_of pairs) p m e in
      let keeps : IsMember shapes m = member_kept pairs shapes read many p m e in
      let two = both (fills_labels Host p.value) (has_wire_name label p (value_in (codes "locationName") p.value)) is in
      let stands : m.host_label ≡ true = stands_in_host (names_of pairs) p m r two.0 in
      join (bytes_eq label m.wire) (m.host_label && is_scalar (kind_of shapes m.shape)) (wire_ok (names_of pairs) label p m r two.1)
      (join m.host_label (is_scalar (kind_of shapes m.shape)) stands (keeps.host stands))

  -- where a member in the file passes, the member that was read of it does
  filled : (test : Pair Doc → Bool) (fills : Member → Bool) → ((p : Pair Doc) (m : Member) → member_of (names_of pairs) p ≡ Ok m → test p ≡ true → fills m ≡ true)
      → (ps : Fields) (ms : List Member) → members_of (names_of pairs) ps ≡ Ok ms → list_any test ps ≡ true → list_any fills ms ≡ true
  filled test fills one [] ms e is = absurd (cc)
  filled test fills one (p ∷ ps) ms e is =
      bind_ok (inside p.key (member_of (names_of pairs) p)) (λ m. members_of (names_of pairs) ps >>= (λ others. Ok (m ∷ others))) ms e (λ m first e1.
      bind_ok (members_of (names_of pairs) ps) (λ others. Ok (m ∷ others)) ms e1 (λ others rest made.
      ap (list_any fills) (sym (same_ok (m ∷ others) ms made))
      ∙ or_true (test p) (list_any test ps) is
      (λ here. ap (λ b. b || list_any fills others) (one p m (inside_ok p.key (member_of (names_of pairs) p) m first) here))
      (λ there. ap (λ b. fills m || b) (filled test fills one ps others rest there) ∙ true_last (fills m))))

  shape_filled : (test : Pair Doc → Bool) (fills : Member → Bool) → ((p : Pair Doc) (m : Member) → member_of (names_of pairs) p ≡ Ok m → test p ≡ true → fills m ≡ true)
      → (id : ShapeId) (k : IsKnown pairs shapes read many id) (ps : Fields) → kind_of shapes id ≡ Some kind.Structure → members_in k.pair.value ≡ Some ps → list_any test ps ≡ true
      → list_any fills (members_at shapes (Some id)) ≡ true
  shape_filled test fills one id k ps is_structure named is =
      let r : IsReadShape (names_of pairs) k.pair k.shape = shape_read (names_of pairs) k.pair k.shape k.is_read in
      let kind_is : k.shape.kind ≡ kind.Structure = same_some k.shape.kind kind.Structure (sym (ap (option_map (λ s. s.kind)) k.in_table) ∙ is_structure) in
      let s : IsReadStructure (names_of pairs) r.fields r.structure =
      structure_read (names_of pairs) r.fields r.structure (structure_known (names_of pairs) k.shape.kind r.fields r.structure kind_is r.structure_read) in
      let same : s.pairs ≡ ps = members_same k.pair.value r.fields s.pairs ps r.there s.at named in
      ap (λ o. list_any fills (members_in_maybe o)) k.in_table ∙ ap (list_any fills) r.members
      ∙ filled test fills one s.pairs r.structure.members s.members (ap (list_any test) same ∙ is)

  input_at : (test : Pair Doc → Bool) (fills : Member → Bool) → ((p : Pair Doc) (m : Member) → member_of (names_of pairs) p ≡ Ok m → test p ≡ true → fills m ≡ true)
      → (doc : Option Doc) (input : Option ShapeId) (ps : Fields) → structure_maybe (names_of pairs) (codes "input") doc ≡ Ok input → members_of_input (names_of pairs) pairs doc ≡ Some ps
      → list_any test ps ≡ true → list_any fills (members_at shapes input) ≡ true
  input_at test fills one None input ps e named is = absurd (cc)
  input_at test fills one (Some doc) input ps e named is =
      bind_ok (inside (codes "input") (structure_in (names_of pairs) doc)) (λ id. Ok (Some id)) input e (λ id first made.
      let is_read : structure_in (names_of pairs) doc ≡ Ok id = inside_ok (codes "input") (structure_in (names_of pairs) doc) id first in
      let is_reference : reference_in (names_of pairs) doc ≡ Ok id = structure_reference (names_of pairs) doc id is_read in
      let text : IsReference (names_of pairs) doc id = reference_in_read (names_of pairs) doc id is_reference in
      let below : id.0 < length (names_of pairs) = reference_in_within (names_of pairs) doc id is_reference in
      let same : length (names_of pairs) ≡ length pairs = length-map pairs _ in
      let within : IsWithin shapes id = omega (arith, below, same, many) in
      let k : IsKnown pairs shapes read many id = known pairs shapes read many id within in
      let structure : kind_of shapes id ≡ Some kind.Structure = sym (kind_same pairs shapes read many id within) ∙ structure_in_ok (names_of pairs) doc id is_read in
      let found : members_in k.pair.value ≡ Some ps =
      ap (λ o. option_and_then (λ p. members_in p.value) o) (sym k.in_file)
      ∙ ap (members_of_number pairs) (sym text.number)
      ∙ ap (members_of_name (names_of pairs) pairs) (sym text.text) ∙ named in
      ap (λ i. list_any fills (members_at shapes i)) (sym (same_ok (Some id) input made)) ∙ shape_filled test fills one id k ps structure found is)

  input_filled : (test : Pair Doc → Bool) (fills : Member → Bool) → ((p : Pair Doc) (m : Member) → member_of (names_of pairs) p ≡ Ok m → test p ≡ true → fills m ≡ true)
      → (fields : Fields) (input : Option ShapeId) (ps : Fields) → structure_at (names_of pairs) (codes "input") fields ≡ Ok input → input_members (names_of pairs) pairs fields ≡ Some ps
      → list_any test ps ≡ true → list_any fills (members_at shapes input) ≡ true
  unfolding structure_at input_members
  input_filled test fills one fields input ps e named is = input_at test fills one (value_at (codes "input") fields) input ps e named is

  -- labels that are named in the file are filled by members that were read
  labels_filled : (place : LabelUse) (fills : List ℕ → Member → Bool) → ((label : List ℕ) (p : Pair Doc) (m : Member) → member_of (names_of pairs) p ≡ Ok m → is_labelled place label p ≡ true → fills label m ≡ true)
      → (fields : Fields) (input : Option ShapeId) (template : List ℕ) → structure_at (names_of pairs) (codes "input") fields ≡ Ok input
      → are_named place (input_members (names_of pairs) pairs fields) (labels template) ≡ true → AreFilled fills (members_at shapes input) template
  labels_filled place fills one fields input template e named =
      All-from_recursion (λ label. list_any (fills label) (members_at shapes input) ≡ true) (labels template)
      (all_named_one (names_one place (input_members (names_of pairs) pairs fields)) (λ label. list_any (fills label) (members_at shapes input) ≡ true)
      (λ label is. let some = names_one_some place (input_members (names_of pairs) pairs fields) label is in input_filled (is_labelled place label) (fills label) (one label) fields input some.0 e some.1 some.2)
      (labels template) named)

  pub uri_kept : (fields : Fields) (input : Option ShapeId) (made : List ℕ × List ℕ) → structure_at (names_of pairs) (codes "input") fields ≡ Ok input
      → http_of (names_of pairs) pairs fields ≡ Ok made → AreFilled (fills_uri shapes) (members_at shapes input) made.1
  uri_kept fields input made e is_read = labels_filled Uri (fills_uri shapes) uri_filled fields input made.1 e (http_named (names_of pairs) pairs fields made is_read)

  pub host_kept : (fields : Fields) (input : Option ShapeId) (prefix : Option (List ℕ)) → structure_at (names_of pairs) (codes "input") fields ≡ Ok input
      → host_prefix_of (names_of pairs) pairs fields ≡ Ok prefix → IfSome prefix (AreFilled (fills_host shapes) (members_at shapes input))
  host_kept fields input prefix e is_read =
      IfSome_then prefix (host_named (names_of pairs) pairs fields prefix is_read) (λ p named. labels_filled Host (fills_host shapes) host_filled fields input p e named)
