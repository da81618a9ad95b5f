-- What fills a label of a path stays in its place.
use Rattle.std.proofs.Common.{◌≡◌, ℕ, zero, suc, ◌/◌, ◌%◌, ◌==◌, Bool, true, false, not, ◌&&◌, ◌||◌, List, [], ◌∷◌, refl, sym, ap, ◌∙◌, if◌then◌else◌}
use Rattle.std.specs.Prelude.{Ok, nat_eq, flat_map, slice_index, codes, encode_utf8_all}
use Rattle.std.specs.Cmp.Derive.{both_true}
use Rattle.std.specs.List.{list_all}
use Rattle.std.proofs.lemmas.Bool.{and_parts, eqb-true, false_from_ne_true, not_from_false, or_from}
use Rattle.std.proofs.lemmas.List.Folds.{list_all-append}
use Rattle.aws_world.specs.declared.message.Message.{Message}
use Rattle.endpoint_rules.specs.declared.endpoint.Endpoint.{Endpoint}
use Rattle.service_model.specs.declared.model.Table.{Table}
use Rattle.service_model.specs.declared.operation.Operation.{Operation}
use Rattle.service_model.specs.Admission.{members_at}
use Rattle.texts.specs.Cut.{is_among}
use Rattle.typed_value.specs.declared.typed.Typed.{Typed}
use Rattle.uri_texts.specs.declared.templates.Piece.{Piece}
use Rattle.uri_texts.specs.declared.templates.Piece.TheVariants.{Plain, Label}
use Rattle.uri_texts.specs.Escapes.{is_unreserved, escape, escaped_byte}
use Rattle.serializer.specs.declared.labels.Labelled.TheVariants.{Path}
use Rattle.serializer.specs.Faults.{Asked}
use Rattle.serializer.specs.Labels.{slashes_of, path_piece, label_text}
use Rattle.serializer.specs.Laws.{stays_in_place, StandsIn, IsFilledPath}
use Rattle.serializer.specs.Members.{is_json}
use Rattle.serializer.specs.Messages.{asked_of, path_pieces, host_of, headers_due, message_with, encoded}
use Rattle.serializer.proofs.CleanHeaders.{then_ok, ok_same}

not_both : (p : ℕ → Bool) (b k : ℕ) → p b ≡ true → not (p k) ≡ true → k ≡ b → ⊥
not_both p b k holds fails same = let never : true ≡ false = sym fails ∙ ap not (ap p same ∙ holds) in cc

-- what passes is none of what doesn't
none_among : (p : ℕ → Bool) (b : ℕ) → p b ≡ true → (marks : List ℕ) → list_all (λ k. not (p k)) marks ≡ true → is_among marks b ≡ false
none_among p b holds [] fail = refl
none_among p b holds (k ∷ ks) fail =
    let both = and_parts (not (p k)) (list_all (λ j. not (p j)) ks) fail in
    or_from (nat_eq k b) (is_among ks b) (false_from_ne_true (nat_eq k b) (λ e. not_both p b k holds both.0 (eqb-true k b e)))
    (none_among p b holds ks both.1)

at_index : (p : ℕ → Bool) (xs : List ℕ) → list_all p xs ≡ true → p 0 ≡ true → (i : ℕ) → p (slice_index xs i) ≡ true
at_index p [] all none i = none
at_index p (x ∷ xs) all none zero = (and_parts (p x) (list_all p xs) all).0
at_index p (x ∷ xs) all none (suc i) = at_index p xs (and_parts (p x) (list_all p xs) all).1 none i

digit_stays : (is_greedy : Bool) (i : ℕ) → stays_in_place is_greedy (slice_index (codes "0123456789ABCDEF") i) ≡ true
digit_stays true i = at_index (stays_in_place true) (codes "0123456789ABCDEF") refl refl i
digit_stays false i = at_index (stays_in_place false) (codes "0123456789ABCDEF") refl refl i

percent_stays : (is_greedy : Bool) → stays_in_place is_greedy 37 ≡ true
percent_stays true = refl
percent_stays false = refl

escape_stays : (is_greedy : Bool) (b : ℕ) → list_all (stays_in_place is_greedy) (escape b) ≡ true
escape_stays is_greedy b =
    both_true (percent_stays is_greedy) (both_true (digit_stays is_greedy (b / 16 % 16)) (both_true (digit_stays is_greedy (b % 16)) refl))

by_test : (p : ℕ → Bool) (is_kept : Bool) (xs ys : List ℕ) → (is_kept ≡ true → list_all p xs ≡ true) → list_all p ys ≡ true
    → list_all p (if is_kept then xs else ys) ≡ true
by_test p true xs ys h k = h refl
by_test p false xs ys h k = k

-- the bytes that a label keeps as they are
abbrev is_kept : Bool → ℕ → Bool
is_kept is_greedy b = is_unreserved b || (is_greedy && (b == 47))

kept_stays : (is_greedy : Bool) (b : ℕ) → is_kept is_greedy b ≡ true → stays_in_place is_greedy b ≡ true
kept_stays true b kept = not_from_false (is_among (codes "?#&=") b) (none_among (is_kept true) b kept (codes "?#&=") refl)
kept_stays false b kept = not_from_false (is_among (codes "?#&=/") b) (none_among (is_kept false) b kept (codes "?#&=/") refl)

byte_stays : (is_greedy : Bool) (b : ℕ) → list_all (stays_in_place is_greedy) (escaped_byte (slashes_of is_greedy) b) ≡ true
byte_stays true b =
    by_test (stays_in_place true) (is_kept true b) (b ∷ []) (escape b) (λ kept. both_true (kept_stays true b kept) refl) (escape_stays true b)
byte_stays false b =
    by_test (stays_in_place false) (is_kept false b) (b ∷ []) (escape b) (λ kept. both_true (kept_stays false b kept) refl) (escape_stays false b)

pub bytes_stay : (is_greedy : Bool) (bytes : List ℕ) → list_all (stays_in_place is_greedy) (flat_map (escaped_byte (slashes_of is_greedy)) bytes) ≡ true
bytes_stay is_greedy [] = refl
bytes_stay is_greedy (b ∷ bytes) =
    list_all-append (stays_in_place is_greedy) (escaped_byte (slashes_of is_greedy) b) (flat_map (escaped_byte (slashes_of is_greedy)) bytes)
    ∙ both_true (byte_stays is_greedy b) (bytes_stay is_greedy bytes)

piece_stands : (asked : Asked) (p : Piece) → StandsIn (path_piece asked.table.shapes (members_at asked.table.shapes asked.op.input) asked.fields p) p
piece_stands asked (Plain text) = refl
piece_stands asked (Label name is_greedy) =
    bytes_stay is_greedy (encode_utf8_all (label_text asked.table.shapes Path (members_at asked.table.shapes asked.op.input) asked.fields name))

pub labels_stay : (table : Table) (op : Operation) (value : Typed) (e : Endpoint) (m : Message) → encoded table op value e ≡ Ok m
    → IsFilledPath e (path_pieces (is_json table.metadata.protocol) op.uri) m.path
labels_stay table op value e m is =
    let asked = asked_of table op value in
    let made = then_ok (headers_due asked (host_of asked e)) (λ hs. Ok (message_with asked e hs)) m is in (
      path_piece table.shapes (members_at table.shapes op.input) asked.fields,
      (piece_stands asked, ap (λ (n : Message). n.path) (sym (ok_same (message_with asked e made.0) m made.1.1))),
    )
