-- Paths and queries of messages are visible ASCII.
use Rattle.std.proofs.Common.{◌≡◌, ⊎_elim, ℕ, zero, suc, ◌/◌, ◌%◌, ◌==◌, ◌≤◌, Bool, true, false, ◌&&◌, ◌||◌, List, [], ◌∷◌, Option, None, Some, refl, sym, ap, subst, ◌∙◌, if◌then◌else◌, arith}
use Rattle.std.specs.Prelude.{Ok, nat_le, nat_lt, flat_map, slice_index, codes, encode_utf8_all}
use Rattle.std.specs.Cmp.Derive.{both_true}
use Rattle.std.specs.List.{list_all}
use Rattle.std.proofs.lemmas.Bool.{agree_below, agree_below_at, and_parts, eqb-true, leb-true, lt-ltb, or_cases}
use Rattle.std.proofs.lemmas.List.Folds.{list_all-append}
use Rattle.aws_world.specs.declared.message.Message.{Message}
use Rattle.endpoint_rules.specs.declared.endpoint.Endpoint.{Endpoint}
use Rattle.service_model.specs.declared.model.Table.{Table}
use Rattle.service_model.specs.declared.operation.Operation.{Operation}
use Rattle.texts.specs.Marks.{around_first}
use Rattle.typed_value.specs.declared.typed.Typed.{Typed}
use Rattle.uri_texts.specs.declared.escapes.Slashes.{Slashes}
use Rattle.uri_texts.specs.declared.escapes.Slashes.TheVariants.{Escaped, Kept}
use Rattle.uri_texts.specs.Escapes.{are_kept, escape, escaped, escaped_byte, is_unreserved}
use Rattle.uri_texts.specs.Visible.{is_visible}
use Rattle.serializer.specs.Labels.{slashes_of}
use Rattle.serializer.specs.Laws.{IsVisibleTarget}
use Rattle.serializer.specs.Members.{is_json}
use Rattle.serializer.specs.Messages.{asked_of, path_before, path_pieces, host_of, headers_due, message_with, encoded}
use Rattle.serializer.proofs.CleanHeaders.{then_ok, ok_same}
use Rattle.serializer.proofs.PathTexts.{path_has}
use Rattle.serializer.proofs.PieceTexts.{has_text, Halves, halves_have, pieces_have}
use Rattle.serializer.proofs.QueryTexts.{query_stays}

in_range : (low high b : ℕ) → 33 ≤ low → high ≤ 126 → (nat_le low b && nat_le b high) ≡ true → is_visible b ≡ true
in_range low high b from to h =
    let parts = and_parts (nat_le low b) (nat_le b high) h in
    let above = leb-true low b parts.0 in
    let below = leb-true b high parts.1 in
    both_true (lt-ltb 32 b (omega arith)) (lt-ltb b 127 (omega arith))

is_one : (b k : ℕ) → is_visible k ≡ true → (b == k) ≡ true → is_visible b ≡ true
is_one b k visible h = subst (λ c. is_visible c ≡ true) (sym (eqb-true b k h)) visible

either : (x y v : Bool) → (x ≡ true → v ≡ true) → (y ≡ true → v ≡ true) → (x || y) ≡ true → v ≡ true
either x y v f g h = ⊎_elim f g (or_cases x y h)

unreserved : (b : ℕ) → is_unreserved b ≡ true → is_visible b ≡ true
unreserved b =
    either _ (b == 126) (is_visible b)
    (either _ (b == 95) (is_visible b)
    (either _ (b == 46) (is_visible b)
    (either _ (b == 45) (is_visible b)
    (either _ (nat_le 48 b && nat_le b 57) (is_visible b)
    (either (nat_le 65 b && nat_le b 90) (nat_le 97 b && nat_le b 122) (is_visible b)
    (in_range 65 90 b (omega arith) (omega arith)) (in_range 97 122 b (omega arith) (omega arith)))
    (in_range 48 57 b (omega arith) (omega arith)))
    (is_one b 45 refl)) (is_one b 46 refl)) (is_one b 95 refl)) (is_one b 126 refl)

kept : (slashes : Slashes) (b : ℕ) → (is_unreserved b || (are_kept slashes && (b == 47))) ≡ true → is_visible b ≡ true
kept slashes b =
    either (is_unreserved b) (are_kept slashes && (b == 47)) (is_visible b) (unreserved b)
    (λ h. is_one b 47 refl (and_parts (are_kept slashes) (b == 47) h).1)

all_digits : agree_below (λ d. is_visible (slice_index (codes "0123456789ABCDEF") d)) (λ d. true) 16 ≡ true
all_digits = refl

digit : (n : ℕ) → is_visible (slice_index (codes "0123456789ABCDEF") (n % 16)) ≡ true
digit n = agree_below_at (λ d. is_visible (slice_index (codes "0123456789ABCDEF") d)) (λ d. true) 16 (n % 16) all_digits (omega arith)

escape_visible : (b : ℕ) → list_all is_visible (escape b) ≡ true
escape_visible b = both_true refl (both_true (digit (b / 16)) (both_true (digit b) refl))

by_test : (t : Bool) (xs ys : List ℕ) → (t ≡ true → list_all is_visible xs ≡ true) → list_all is_visible ys ≡ true → list_all is_visible (if t then xs else ys) ≡ true
by_test true xs ys h k = h refl
by_test false xs ys h k = k

byte_visible : (slashes : Slashes) (b : ℕ) → list_all is_visible (escaped_byte slashes b) ≡ true
byte_visible slashes b =
    by_test (is_unreserved b || (are_kept slashes && (b == 47))) (b ∷ []) (escape b) (λ h. both_true (kept slashes b h) refl) (escape_visible b)

bytes_visible : (slashes : Slashes) (bytes : List ℕ) → list_all is_visible (flat_map (escaped_byte slashes) bytes) ≡ true
bytes_visible slashes [] = refl
bytes_visible slashes (b ∷ bytes) =
    list_all-append is_visible (escaped_byte slashes b) (flat_map (escaped_byte slashes) bytes)
    ∙ both_true (byte_visible slashes b) (bytes_visible slashes bytes)

fills : (is_greedy : Bool) (bytes : List ℕ) → list_all is_visible (flat_map (escaped_byte (slashes_of is_greedy)) bytes) ≡ true
fills is_greedy bytes = bytes_visible (slashes_of is_greedy) bytes

escaped_visible : (text : List ℕ) → list_all is_visible (escaped Escaped text) ≡ true
escaped_visible text = bytes_visible Escaped (encode_utf8_all text)

before_has : (found : Option (List ℕ × List ℕ)) (uri : List ℕ) → list_all is_visible uri ≡ true → Halves is_visible refl found
    → list_all is_visible (elim found [ Some halves ↦ halves.0 | None ↦ uri ]) ≡ true
before_has None uri h k = h
before_has (Some halves) uri h k = k.0

path_visible : (uri : List ℕ) → list_all is_visible uri ≡ true → list_all is_visible (path_before uri) ≡ true
path_visible uri h = before_has (around_first 63 uri) uri h (halves_have is_visible refl 63 uri h)

pieces_visible : (is_json : Bool) (uri : List ℕ) → list_all is_visible uri ≡ true → list_all (has_text is_visible) (path_pieces is_json uri) ≡ true
pieces_visible true uri h = both_true (path_visible uri h) refl
pieces_visible false uri h = pieces_have is_visible refl (path_before uri) (path_visible uri h)

pub targets_visible : (table : Table) (op : Operation) (value : Typed) (e : Endpoint) (m : Message)
    → list_all is_visible op.uri ≡ true → list_all is_visible e.path ≡ true → encoded table op value e ≡ Ok m → IsVisibleTarget m
targets_visible table op value e m uri path is =
    let asked = asked_of table op value in
    let made = then_ok (headers_due asked (host_of asked e)) (λ hs. Ok (message_with asked e hs)) m is in
    subst IsVisibleTarget (ok_same (message_with asked e made.0) m made.1.1) (record {
      path = path_has is_visible fills asked e path (pieces_visible (is_json table.metadata.protocol) op.uri uri);
      query = query_stays is_visible escaped_visible asked;
    })
