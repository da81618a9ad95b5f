-- The names of the headers of a message are tokens, and none is one that sending writes.
use Rattle.std.proofs.Common.{◌≡◌, ℕ, Bool, true, false, not, ◌&&◌, ◌||◌, List, [], ◌∷◌, ◌++◌, refl, sym, ap, subst, ◌∙◌, if◌then◌else◌}
use Rattle.std.specs.Prelude.{Result, Ok, nat_lt, codes, encode_utf8_all}
use Rattle.std.specs.Cmp.Derive.{both_true}
use Rattle.std.specs.List.{list_all}
use Rattle.std.proofs.lemmas.Bool.{and_parts, ltb-true, or_parts, not_from_false}
use Rattle.std.proofs.lemmas.List.Folds.{list_all-append}
use Rattle.std.proofs.lemmas.Str.{encode_ascii}
use Rattle.aws_world.specs.declared.message.Message.{Message}
use Rattle.endpoint_rules.specs.declared.endpoint.Endpoint.{Endpoint}
use Rattle.service_model.specs.declared.model.Table.{Table}
use Rattle.service_model.specs.declared.operation.Operation.{Operation}
use Rattle.service_model.specs.declared.shape.Member.{Member}
use Rattle.service_model.specs.Admission.{members_at}
use Rattle.typed_value.specs.declared.typed.Typed.{Typed}
use Rattle.serializer.specs.Faults.{Asked, Fields, are_bad, parts_fault, checked, headers_of, with_member, headers_from}
use Rattle.serializer.specs.HeaderNames.{is_plain, is_token, are_token_bytes, is_of_signing, is_of_sending, is_forbidden, is_among, is_bad_header}
use Rattle.serializer.specs.Laws.{is_named, are_named}
use Rattle.serializer.specs.Members.{is_json}
use Rattle.serializer.specs.Messages.{asked_of, host_of, json_headers, first_headers, needs_type, with_type, headers_due, message_with, encoded}
use Rattle.serializer.proofs.CleanHeaders.{ok_same, then_ok, found_ok, checked_ok, is_so}

-- a text in ASCII is its own bytes
same_bytes : (cs : List ℕ) → list_all (λ c. nat_lt c 128) cs ≡ true → encode_utf8_all cs ≡ cs
same_bytes [] h = refl
same_bytes (c ∷ cs) h =
    let parts = and_parts (nat_lt c 128) (list_all (λ d. nat_lt d 128) cs) h in
    ap (λ e. e ++ encode_utf8_all cs) (encode_ascii c (ltb-true c 128 parts.0)) ∙ ap (λ s. c ∷ s) (same_bytes cs parts.1)

own_name : (name : List ℕ) → list_all (λ c. nat_lt c 128) name ≡ true → are_token_bytes name ≡ true → is_of_sending name ≡ false
    → (is_token name && not (is_of_sending name)) ≡ true
own_name name low token other = both_true (ap are_token_bytes (same_bytes name low) ∙ token) (not_from_false (is_of_sending name) other)

named_one : (earlier : Fields) (h : List ℕ × List ℕ) → is_bad_header earlier h ≡ false → is_named h ≡ true
named_one earlier h fits =
    let plain = not (is_plain h.1) in
    let token = not (is_token h.0) in
    let there = or_parts (plain || token || is_forbidden h.0) (is_among earlier h.0) fits in
    let own = or_parts (plain || token) (is_forbidden h.0) there.0 in
    let both = or_parts plain token own.0 in
    both_true (is_so (is_token h.0) both.1) (not_from_false (is_of_sending h.0) (or_parts (is_of_signing h.0) (is_of_sending h.0) own.1).1)

named_new : (earlier hs : Fields) → are_bad earlier hs ≡ false → are_named hs ≡ true
named_new earlier [] fits = refl
named_new earlier (h ∷ hs) fits =
    let both = or_parts (is_bad_header earlier h) (are_bad (earlier ++ h ∷ []) hs) fits in
    both_true (named_one earlier h both.0) (named_new (earlier ++ h ∷ []) hs both.1)

named_behind : (hs more : Fields) → are_named hs ≡ true → are_named more ≡ true → are_named (hs ++ more) ≡ true
named_behind hs more h k = list_all-append is_named hs more ∙ both_true h k

named_member : (asked : Asked) (hs : Fields) (m : Member) (out : Fields) → with_member asked hs m ≡ Ok out → are_named hs ≡ true → are_named out ≡ true
named_member asked hs m out h named =
    let found = found_ok (parts_fault asked m) (checked hs (headers_of asked m) m.name) out h in
    let fits = checked_ok (are_bad hs (headers_of asked m)) m.name (hs ++ headers_of asked m) out found.1 in
    subst (λ all. are_named all ≡ true) fits.1 (named_behind hs (headers_of asked m) named (named_new hs (headers_of asked m) fits.0))

named_members : (asked : Asked) (hs : Fields) (ms : List Member) (out : Fields) → headers_from asked hs ms ≡ Ok out → are_named hs ≡ true
    → are_named out ≡ true
named_members asked hs [] out h named = subst (λ all. are_named all ≡ true) (ok_same hs out h) named
named_members asked hs (m ∷ ms) out h named =
    let next = then_ok (with_member asked hs m) (λ more. headers_from asked more ms) out h in
    named_members asked next.0 ms out next.1.1 (named_member asked hs m next.0 next.1.0 named)

named_if : (b : Bool) (hs more : Fields) → are_named hs ≡ true → are_named more ≡ true → are_named (if b then hs else more) ≡ true
named_if true hs more h k = h
named_if false hs more h k = k

named_first : (asked : Asked) (host : List ℕ) → are_named (first_headers asked host) ≡ true
named_first asked host =
    both_true (own_name (codes "Host") refl refl refl)
    (named_if (is_json asked.table.metadata.protocol) (json_headers asked) []
    (both_true (own_name (codes "X-Amz-Target") refl refl refl) (both_true (own_name (codes "Content-Type") refl refl refl) refl)) refl)

named_type : (asked : Asked) (hs : Fields) → are_named hs ≡ true → are_named (with_type asked hs) ≡ true
named_type asked hs h =
    named_if (needs_type asked hs) (hs ++ (codes "Content-Type", codes "application/json") ∷ []) hs
    (named_behind hs ((codes "Content-Type", codes "application/json") ∷ []) h (both_true (own_name (codes "Content-Type") refl refl refl) refl)) h

pub named_headers : (table : Table) (op : Operation) (value : Typed) (e : Endpoint) (m : Message) → encoded table op value e ≡ Ok m
    → are_named m.headers ≡ true
named_headers table op value e m is =
    let asked = asked_of table op value in
    let first = first_headers asked (host_of asked e) in
    let members = members_at table.shapes op.input in
    let made = then_ok (headers_due asked (host_of asked e)) (λ hs. Ok (message_with asked e hs)) m is in
    let due = then_ok (headers_from asked first members) (λ hs. Ok (with_type asked hs)) made.0 made.1.0 in
    let all = named_type asked due.0 (named_members asked first members due.0 due.1.0 (named_first asked (host_of asked e))) in
    let headers = subst (λ hs. are_named hs ≡ true) (ok_same (with_type asked due.0) made.0 due.1.1) all in
    subst (λ (n : Message). are_named n.headers ≡ true) (ok_same (message_with asked e made.0) m made.1.1) headers
