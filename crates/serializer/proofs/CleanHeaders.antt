-- No control character of ASCII stands in the headers of a message.
use Rattle.std.proofs.Common.{◌≡◌, ℕ, Bool, true, false, not, ◌&&◌, ◌||◌, List, [], ◌∷◌, ◌++◌, Option, None, Some, refl, sym, ap, subst, ◌∙◌, if◌then◌else◌}
use Rattle.std.specs.Prelude.{Result, Ok, Err, bytes_eq, unwrap_or, codes}
use Rattle.std.specs.Cmp.Derive.{both_true}
use Rattle.std.specs.Fmt.{decimal}
use Rattle.std.specs.List.{AllByRecursion, list_all}
use Rattle.std.specs.Option.{option_or}
use Rattle.std.proofs.lemmas.Bool.{and_parts, or_parts, or_left, or_right}
use Rattle.std.proofs.lemmas.List.Folds.{list_all-append}
use Rattle.aws_world.specs.declared.message.Message.{Message}
use Rattle.endpoint_rules.specs.declared.endpoint.Endpoint.{Endpoint}
use Rattle.endpoint_rules.specs.HostLabels.{is_label, is_label_character, has_label_form}
use Rattle.service_model.specs.declared.model.Table.{Table}
use Rattle.service_model.specs.declared.operation.Operation.{Operation}
use Rattle.service_model.specs.declared.shape.Member.{Member}
use Rattle.service_model.specs.declared.shape.Shape.{Shape}
use Rattle.service_model.specs.declared.shape.TimeForm.TheVariants.{Iso8601}
use Rattle.service_model.specs.Admission.{members_at}
use Rattle.texts.specs.Calls.{◌>>=◌}
use Rattle.texts.specs.declared.pairs.Pair.{Pair}
use Rattle.typed_value.specs.declared.typed.Typed.{Typed}
use Rattle.uri_texts.specs.declared.templates.Piece.{Piece}
use Rattle.uri_texts.specs.declared.templates.Piece.TheVariants.{Plain, Label}
use Rattle.serializer.specs.declared.encode_fault.EncodeFault.{EncodeFault}
use Rattle.serializer.specs.declared.encode_fault.EncodeFault.TheVariants.{EmptyLabel, BadHostLabel, TimeOutOfRange, BadHeaderText}
use Rattle.serializer.specs.declared.labels.Labelled.TheVariants.{Path, Host}
use Rattle.serializer.specs.Faults.{Asked, Fields, are_bad, is_lost_as, is_lost_member, fills_label, label_fault, parts_fault, checked, headers_of, with_member, headers_from}
use Rattle.serializer.specs.HeaderNames.{is_header_byte, is_plain, is_token, is_token_byte, is_forbidden, is_among, is_bad_header}
use Rattle.serializer.specs.Labels.{fills, has_label, member_text, label_text, host_text}
use Rattle.serializer.specs.Laws.{is_clean, are_clean, has_clean_texts}
use Rattle.serializer.specs.Members.{is_json}
use Rattle.serializer.specs.Messages.{asked_of, host_pieces, is_usual_port, port_text, host_of, target_of, json_type, json_headers, first_headers, needs_type, with_type, headers_due, message_with, encoded}
use Rattle.serializer.proofs.CleanTexts.{clean_from, clean_bytes, clean_either, clean_decimal}
use Rattle.serializer.proofs.PieceTexts.{has_text, pieces_have}

pub ok_same : {A : Type 0} (x y : A) → ◌≡◌ {A = Result A EncodeFault} (Ok x) (Ok y) → x ≡ y
ok_same x y h = ap (λ r. elim r [ Ok z ↦ z | Err fault ↦ x ]) h

pub then_ok : {A B : Type 0} (r : Result A EncodeFault) (f : A → Result B EncodeFault) (y : B) → (r >>= f) ≡ Ok y
    → (x : A) × ((r ≡ Ok x) × (f x ≡ Ok y))
then_ok (Ok x) f y h = (x, (refl, h))
then_ok (Err fault) f y h = cc

pub found_ok : (found : Option EncodeFault) (r : Result Fields EncodeFault) (out : Fields)
    → ◌≡◌ {A = Result Fields EncodeFault} (elim found [ None ↦ r | Some f ↦ Err f ]) (Ok out) → (found ≡ None) × (r ≡ Ok out)
found_ok None r out h = (refl, h)
found_ok (Some f) r out h = cc

pub checked_ok : (b : Bool) (name : List ℕ) (hs out : Fields) → (if b then Err (BadHeaderText name) else Ok hs) ≡ Ok out → (b ≡ false) × (hs ≡ out)
checked_ok true name hs out h = cc
checked_ok false name hs out h = (refl, ok_same hs out h)

pub is_so : (b : Bool) → not b ≡ false → b ≡ true
is_so true h = refl
is_so false h = cc

clean_token : (name : List ℕ) → is_token name ≡ true → is_clean name ≡ true
clean_token name h = clean_bytes is_token_byte refl name (and_parts _ _ h).1

clean_one : (earlier : Fields) (h : List ℕ × List ℕ) → is_bad_header earlier h ≡ false → (is_clean h.0 && is_clean h.1) ≡ true
clean_one earlier h fits =
    let plain = not (is_plain h.1) in
    let token = not (is_token h.0) in
    let there = or_parts (plain || token || is_forbidden h.0) (is_among earlier h.0) fits in
    let own = or_parts (plain || token) (is_forbidden h.0) there.0 in
    let both = or_parts plain token own.0 in
    both_true (clean_token h.0 (is_so (is_token h.0) both.1)) (clean_bytes is_header_byte refl h.1 (is_so (is_plain h.1) both.0))

clean_new : (earlier hs : Fields) → are_bad earlier hs ≡ false → are_clean hs ≡ true
clean_new earlier [] fits = refl
clean_new earlier (h ∷ hs) fits =
    let both = or_parts (is_bad_header earlier h) (are_bad (earlier ++ h ∷ []) hs) fits in
    both_true (clean_one earlier h both.0) (clean_new (earlier ++ h ∷ []) hs both.1)

clean_behind : (hs more : Fields) → are_clean hs ≡ true → are_clean more ≡ true → are_clean (hs ++ more) ≡ true
clean_behind hs more h k = list_all-append _ hs more ∙ both_true h k

clean_member : (asked : Asked) (hs : Fields) (m : Member) (out : Fields) → with_member asked hs m ≡ Ok out → are_clean hs ≡ true → are_clean out ≡ true
clean_member asked hs m out h clean =
    let found = found_ok (parts_fault asked m) (checked hs (headers_of asked m) m.name) out h in
    let fits = checked_ok (are_bad hs (headers_of asked m)) m.name (hs ++ headers_of asked m) out found.1 in
    subst (λ all. are_clean all ≡ true) fits.1 (clean_behind hs (headers_of asked m) clean (clean_new hs (headers_of asked m) fits.0))

clean_members : (asked : Asked) (hs : Fields) (ms : List Member) (out : Fields) → headers_from asked hs ms ≡ Ok out → are_clean hs ≡ true
    → are_clean out ≡ true
clean_members asked hs [] out h clean = subst (λ all. are_clean all ≡ true) (ok_same hs out h) clean
clean_members asked hs (m ∷ ms) out h clean =
    let next = then_ok (with_member asked hs m) (λ more. headers_from asked more ms) out h in
    clean_members asked next.0 ms out next.1.1 (clean_member asked hs m next.0 next.1.0 clean)

-- where there are headers, no member has a fault in its other parts
no_faults : (asked : Asked) (hs : Fields) (ms : List Member) (out : Fields) → headers_from asked hs ms ≡ Ok out
    → AllByRecursion (λ m. parts_fault asked m ≡ None) ms
no_faults asked hs [] out h = tt
no_faults asked hs (m ∷ ms) out h =
    let next = then_ok (with_member asked hs m) (λ more. headers_from asked more ms) out h in
    ((found_ok (parts_fault asked m) (checked hs (headers_of asked m) m.name) next.0 next.1.0).0, no_faults asked next.0 ms out next.1.1)

first_none : (o p : Option EncodeFault) → option_or o p ≡ None → o ≡ None
first_none None p h = refl
first_none (Some f) p h = h

passes : (b : Bool) (f : EncodeFault) → (if not b then Some f else None) ≡ None → b ≡ true
passes true f h = refl
passes false f h = cc

label_clean : (text : List ℕ) (is_lost is_labelled : Bool) (name : List ℕ) → is_labelled ≡ true
    → (if bytes_eq text [] then (if is_lost then None else Some (EmptyLabel name))
    else if is_labelled && not (is_label text) then Some (BadHostLabel name) else None) ≡ None
    → is_clean text ≡ true
label_clean [] is_lost is_labelled name holds none = refl
label_clean (c ∷ cs) is_lost true name holds none =
    clean_from is_label_character refl (c ∷ cs)
    (and_parts (list_all is_label_character (c ∷ cs)) (has_label_form (c ∷ cs)) (passes (is_label (c ∷ cs)) (BadHostLabel name) none)).0
label_clean (c ∷ cs) is_lost false name holds none = cc

-- what fills a label of these pieces of a host prefix is clean
abbrev FillsCleanly : Asked → List Piece → Member → Type 0
FillsCleanly asked pieces m = has_label Host pieces m ≡ true → is_clean (member_text asked.table.shapes asked.fields m) ≡ true

fills_cleanly : (asked : Asked) (m : Member) → parts_fault asked m ≡ None → FillsCleanly asked asked.host m
fills_cleanly asked m none holds =
    let no_label = first_none (if fills_label asked m then label_fault asked m else None) (if is_lost_member asked m then Some (TimeOutOfRange m.name) else None) none in
    let filled : fills_label asked m ≡ true = or_left (has_label Host asked.host m) (has_label Path asked.path m) holds in
    label_clean (member_text asked.table.shapes asked.fields m) (is_lost_as asked Iso8601 m) (has_label Host asked.host m) m.name holds
    (sym (ap (λ b. if b then label_fault asked m else None) filled) ∙ no_label)

all_so : (P Q : Member → Type 0) → ((m : Member) → P m → Q m) → (ms : List Member) → AllByRecursion P ms → AllByRecursion Q ms
all_so P Q each [] all = tt
all_so P Q each (m ∷ ms) all = (each m all.0, all_so P Q each ms all.1)

chosen : (b : Bool) (xs ys : List ℕ) → (b ≡ true → is_clean xs ≡ true) → is_clean ys ≡ true → is_clean (if b then xs else ys) ≡ true
chosen true xs ys h k = h refl
chosen false xs ys h k = k

clean_label : (shapes : List Shape) (ps : List (Pair Typed)) (name : List ℕ) (ms : List Member)
    → AllByRecursion (λ m. fills Host name m ≡ true → is_clean (member_text shapes ps m) ≡ true) ms
    → is_clean (label_text shapes Host ms ps name) ≡ true
clean_label shapes ps name [] all = refl
clean_label shapes ps name (m ∷ ms) all =
    chosen (fills Host name m) (member_text shapes ps m) (label_text shapes Host ms ps name) all.0 (clean_label shapes ps name ms all.1)

clean_prefix : (asked : Asked) (ms : List Member) (pieces : List Piece) → list_all (has_text is_header_byte) pieces ≡ true
    → AllByRecursion (FillsCleanly asked pieces) ms → is_clean (host_text asked.table.shapes ms asked.fields pieces) ≡ true
clean_prefix asked ms [] plain all = refl
clean_prefix asked ms (Plain text ∷ pieces) plain all =
    let both = and_parts (is_clean text) (list_all (has_text is_header_byte) pieces) plain in
    list_all-append is_header_byte text (host_text asked.table.shapes ms asked.fields pieces)
    ∙ both_true both.0 (clean_prefix asked ms pieces both.1 all)
clean_prefix asked ms (Label name is_greedy ∷ pieces) plain all =
    let label = label_text asked.table.shapes Host ms asked.fields name in
    list_all-append is_header_byte label (host_text asked.table.shapes ms asked.fields pieces)
    ∙ both_true
    (clean_label asked.table.shapes asked.fields name ms
    (all_so (FillsCleanly asked (Label name is_greedy ∷ pieces)) (λ m. fills Host name m ≡ true → is_clean (member_text asked.table.shapes asked.fields m) ≡ true)
    (λ m h holds. h (or_left (fills Host name m) (has_label Host pieces m) holds)) ms all))
    (clean_prefix asked ms pieces plain
    (all_so (FillsCleanly asked (Label name is_greedy ∷ pieces)) (FillsCleanly asked pieces)
    (λ m h holds. h (or_right (fills Host name m) (has_label Host pieces m) holds)) ms all))

clean_pieces_of : (prefix : Option (List ℕ)) → is_clean (unwrap_or prefix []) ≡ true → list_all (has_text is_header_byte) (host_pieces prefix) ≡ true
clean_pieces_of None h = refl
clean_pieces_of (Some prefix) h = pieces_have is_header_byte refl prefix h

clean_port : (e : Endpoint) → is_clean (port_text e) ≡ true
clean_port e = clean_either (is_usual_port e.scheme e.port) [] (codes ":" ++ decimal e.port) refl (both_true refl (clean_decimal e.port))

fields_if : (b : Bool) (hs more : Fields) → are_clean hs ≡ true → are_clean more ≡ true → are_clean (if b then hs else more) ≡ true
fields_if true hs more h k = h
fields_if false hs more h k = k

clean_first : (asked : Asked) (host : List ℕ) → is_clean host ≡ true → is_clean (target_of asked) ≡ true → is_clean (json_type asked) ≡ true
    → are_clean (first_headers asked host) ≡ true
clean_first asked host h target kind =
    both_true (both_true refl h)
    (fields_if (is_json asked.table.metadata.protocol) (json_headers asked) [] (both_true (both_true refl target) (both_true (both_true refl kind) refl)) refl)

clean_type : (asked : Asked) (hs : Fields) → are_clean hs ≡ true → are_clean (with_type asked hs) ≡ true
clean_type asked hs h =
    fields_if (needs_type asked hs) (hs ++ (codes "Content-Type", codes "application/json") ∷ []) hs (clean_behind hs _ h refl) h

clean_host : (asked : Asked) (e : Endpoint) (ms : List Member) → is_clean e.host ≡ true → list_all (has_text is_header_byte) asked.host ≡ true
    → AllByRecursion (λ m. parts_fault asked m ≡ None) ms
    → is_clean (host_text asked.table.shapes ms asked.fields asked.host ++ e.host ++ port_text e) ≡ true
clean_host asked e ms host plain none =
    let before = host_text asked.table.shapes ms asked.fields asked.host in
    let filled = clean_prefix asked ms asked.host plain (all_so (λ m. parts_fault asked m ≡ None) (FillsCleanly asked asked.host) (fills_cleanly asked) ms none) in
    list_all-append is_header_byte (before ++ e.host) (port_text e)
    ∙ both_true (list_all-append is_header_byte before e.host ∙ both_true filled host) (clean_port e)

pub clean_headers : (table : Table) (op : Operation) (value : Typed) (e : Endpoint) (m : Message)
    → has_clean_texts table op e ≡ true → encoded table op value e ≡ Ok m → are_clean m.headers ≡ true
clean_headers table op value e m texts is =
    let asked = asked_of table op value in
    let members = members_at table.shapes op.input in
    let prefix = and_parts (is_clean op.name && is_clean table.metadata.target_prefix && is_clean table.metadata.json_version && is_clean e.host) (is_clean (unwrap_or op.host_prefix [])) texts in
    let host = and_parts (is_clean op.name && is_clean table.metadata.target_prefix && is_clean table.metadata.json_version) (is_clean e.host) prefix.0 in
    let version = and_parts (is_clean op.name && is_clean table.metadata.target_prefix) (is_clean table.metadata.json_version) host.0 in
    let target = and_parts (is_clean op.name) (is_clean table.metadata.target_prefix) version.0 in
    let made = then_ok (headers_due asked (host_of asked e)) (λ hs. Ok (message_with asked e hs)) m is in
    let due = then_ok (headers_from asked (first_headers asked (host_of asked e)) members) (λ hs. Ok (with_type asked hs)) made.0 made.1.0 in
    let none = no_faults asked (first_headers asked (host_of asked e)) members due.0 due.1.0 in
    let clean_target : is_clean (target_of asked) ≡ true =
    list_all-append is_header_byte (table.metadata.target_prefix ++ codes ".") op.name
    ∙ both_true (list_all-append is_header_byte table.metadata.target_prefix (codes ".") ∙ both_true target.1 refl) target.0 in
    let first = clean_first asked (host_of asked e) (clean_host asked e members host.1 (clean_pieces_of op.host_prefix prefix.1) none) clean_target
    (list_all-append is_header_byte (codes "application/x-amz-json-") table.metadata.json_version ∙ both_true refl version.1) in
    let all = clean_type asked due.0 (clean_members asked (first_headers asked (host_of asked e)) members due.0 due.1.0 first) in
    let headers = subst (λ hs. are_clean hs ≡ true) (ok_same (with_type asked due.0) made.0 due.1.1) all in
    subst (λ (n : Message). are_clean n.headers ≡ true) (ok_same (message_with asked e made.0) m made.1.1) headers
