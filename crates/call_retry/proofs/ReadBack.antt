-- The message of a value is read back as itself.
use Rattle.std.proofs.Common.{◌≡◌, ℕ, ◌<◌, Bool, true, false, not, ◌&&◌, ◌||◌, List, [], ◌∷◌, ◌++◌, refl, sym, ap, ◌∙◌, arith}
use Rattle.std.specs.Prelude.{Ok, length, codes, encode_utf8_all}
use Rattle.std.specs.Cmp.Derive.{both_true}
use Rattle.std.specs.List.{list_all}
use Rattle.std.specs.Str.{str_eq_ignore_ascii_case}
use Rattle.std.proofs.lemmas.Bool.{and_parts, not_from_false, or_from, or_parts}
use Rattle.std.proofs.lemmas.List.Folds.{list_all-append}
use Rattle.aws_world.specs.declared.message.Message.{Message}
use Rattle.endpoint_rules.specs.declared.endpoint.Endpoint.{Endpoint}
use Rattle.httparse.specs.Grammar.{is_token_byte}
use Rattle.httparse.specs.Grammar.{is_token as Token}
use Rattle.http_exchange.specs.ReadBack.{IsClean, RequestsReadBack, ReadsBack, is_clean_header, is_field_character, is_framing, target_of}
use Rattle.http_exchange.specs.Wire.{parameters}
use Rattle.service_model.specs.declared.model.Table.{Table}
use Rattle.service_model.specs.declared.operation.Operation.{Operation}
use Rattle.typed_value.specs.declared.typed.Typed.{Typed}
use Rattle.uri_texts.specs.Parameters.{parameter}
use Rattle.uri_texts.specs.Visible.{is_visible}
use Rattle.serializer.specs.HeaderNames.{is_token, is_of_sending}
use Rattle.serializer.specs.Laws.{HeadersAreClean, HeadersAreNamed, PathsAreThere, TargetsAreVisible, IsVisibleTarget, are_clean, are_named, is_clean, is_named}
use Rattle.serializer.specs.Messages.{asked_of, encoded, headers_due, host_of, message_with}
use Rattle.serializer.proofs.CleanHeaders.{then_ok, ok_same}
use Rattle.call_retry.specs.Laws.{IsSound, MessagesReadBack, with_headers}

is_false : (b : Bool) → not b ≡ true → b ≡ false
is_false true h = absurd (cc)
is_false false h = refl

not_framing : (name : List ℕ) → is_of_sending name ≡ false → is_framing name ≡ false
not_framing name h =
    let has_length = str_eq_ignore_ascii_case name (codes "Content-Length") in
    let has_connection = str_eq_ignore_ascii_case name (codes "Connection") in
    let has_agent = str_eq_ignore_ascii_case name (codes "User-Agent") in
    let has_coding = str_eq_ignore_ascii_case name (codes "Transfer-Encoding") in
    let all = or_parts (has_length || has_connection || has_agent) has_coding h in
    let front = or_parts (has_length || has_connection) has_agent all.0 in
    or_from has_length has_coding (or_parts has_length has_connection front.0).0 all.1

token : (name : List ℕ) → is_token name ≡ true → Token (encode_utf8_all name) ≡ true
unfolding is_token_byte
token name h = h

clean_header : (h : List ℕ × List ℕ) → is_named h ≡ true → (is_clean h.0 && is_clean h.1) ≡ true → is_clean_header h ≡ true
clean_header h named clean =
    let name = and_parts (is_token h.0) (not (is_of_sending h.0)) named in
    both_true (both_true (token h.0 name.0) (not_from_false (is_framing h.0) (not_framing h.0 (is_false (is_of_sending h.0) name.1))))
    (and_parts (is_clean h.0) (is_clean h.1) clean).1

clean_headers : (hs : List (List ℕ × List ℕ)) → are_named hs ≡ true → are_clean hs ≡ true → list_all is_clean_header hs ≡ true
clean_headers [] named clean = refl
clean_headers (h ∷ hs) named clean =
    let names = and_parts (is_named h) (are_named hs) named in
    let texts = and_parts (is_clean h.0 && is_clean h.1) (are_clean hs) clean in
    both_true (clean_header h names.0 texts.0) (clean_headers hs names.1 texts.1)

abbrev both_visible : List ℕ × List ℕ → Bool
both_visible p = list_all is_visible p.0 && list_all is_visible p.1

parameter_visible : (p : List ℕ × List ℕ) → both_visible p ≡ true → list_all is_visible (parameter p) ≡ true
parameter_visible p h =
    let both = and_parts (list_all is_visible p.0) (list_all is_visible p.1) h in
    list_all-append is_visible (p.0 ++ 61 ∷ []) p.1
    ∙ both_true (list_all-append is_visible p.0 (61 ∷ []) ∙ both_true both.0 refl) both.1

parameters_visible : (mark : ℕ) → is_visible mark ≡ true → (ps : List (List ℕ × List ℕ)) → list_all both_visible ps ≡ true
    → list_all is_visible (parameters mark ps) ≡ true
parameters_visible mark h [] all = refl
parameters_visible mark h (p ∷ ps) all =
    let both = and_parts (both_visible p) (list_all both_visible ps) all in
    both_true h (list_all-append is_visible (parameter p) (parameters 38 ps) ∙ both_true (parameter_visible p both.0) (parameters_visible 38 refl ps both.1))

target_visible : (m : Message) → IsVisibleTarget m → list_all is_visible (target_of m) ≡ true
target_visible m h = list_all-append is_visible m.path (parameters 63 m.query) ∙ both_true h.path (parameters_visible 63 refl m.query h.query)

longer : (xs ys : List ℕ) → 0 < length xs → 0 < length (xs ++ ys)
longer [] ys h = absurd (omega (arith, h))
longer (x ∷ xs) ys h = omega arith

method_is : (table : Table) (op : Operation) (value : Typed) (e : Endpoint) (m : Message) → encoded table op value e ≡ Ok m → m.method ≡ op.method
method_is table op value e m is =
    let asked = asked_of table op value in
    let made = then_ok (headers_due asked (host_of asked e)) (λ hs. Ok (message_with asked e hs)) m is in
    ap (λ (n : Message). n.method) (sym (ok_same (message_with asked e made.0) m made.1.1))

pub read_back : RequestsReadBack → HeadersAreClean → HeadersAreNamed → TargetsAreVisible → PathsAreThere → MessagesReadBack
read_back back clean named visible there table op value e m more sound is others =
    back (with_headers m more) (record {
      method = ap (λ method. Token (encode_utf8_all method)) (method_is table op value e m is) ∙ token op.method sound.method;
      target = target_visible m (visible table op value e m sound.uri sound.path is);
      has_target = longer m.path (parameters 63 m.query) (there table op value e m sound.rooted is);
      headers = list_all-append is_clean_header m.headers more
          ∙ both_true (clean_headers m.headers (named table op value e m is) (clean table op value e m sound.texts is)) others;
    })
