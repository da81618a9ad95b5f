-- No query begins in the path of a message.
use Rattle.std.proofs.Common.{◌≡◌, ℕ, Bool, true, false, List, [], ◌∷◌, Option, None, Some, refl, sym, ap, subst, ◌∙◌, if◌then◌else◌}
use Rattle.std.specs.Prelude.{Ok, nat_eq, flat_map, option_map}
use Rattle.std.specs.Cmp.Derive.{both_true}
use Rattle.std.specs.List.{list_all}
use Rattle.std.proofs.lemmas.Bool.{and_parts, eqb-true, false_from_ne_true, not_from_false}
use Rattle.std.proofs.lemmas.List.Folds.{list_all-append}
use Rattle.aws_world.specs.declared.message.Message.{Message}
use Rattle.endpoint_rules.specs.declared.endpoint.Endpoint.{Endpoint}
use Rattle.service_model.specs.declared.model.Table.{Table}
use Rattle.service_model.specs.declared.operation.Operation.{Operation}
use Rattle.service_model.specs.declared.shape.Member.{Member}
use Rattle.service_model.specs.Admission.{members_at}
use Rattle.texts.specs.Marks.{around_first, without_last}
use Rattle.typed_value.specs.declared.typed.Typed.{Typed}
use Rattle.uri_texts.specs.declared.templates.Piece.{Piece}
use Rattle.uri_texts.specs.declared.templates.Piece.TheVariants.{Plain, Label}
use Rattle.serializer.specs.declared.labels.Labelled.TheVariants.{Path}
use Rattle.serializer.specs.Faults.{Asked}
use Rattle.serializer.specs.Labels.{slashes_of}
use Rattle.uri_texts.specs.Escapes.{escaped_byte}
use Rattle.serializer.specs.Laws.{is_in_path, stays_in_place}
use Rattle.serializer.specs.Members.{is_json}
use Rattle.serializer.specs.Messages.{asked_of, base_path, path_before, path_pieces, path_of, host_of, headers_due, message_with, encoded}
use Rattle.serializer.proofs.CleanHeaders.{then_ok, ok_same}
use Rattle.serializer.proofs.PathLabels.{bytes_stay}
use Rattle.serializer.proofs.PathTexts.{path_has}
use Rattle.serializer.proofs.PieceTexts.{has_text, pieces_have}

no_mark : (is_greedy : Bool) → stays_in_place is_greedy 63 ≡ false
no_mark true = refl
no_mark false = refl

in_path : (is_greedy : Bool) (c : ℕ) → stays_in_place is_greedy c ≡ true → is_in_path c ≡ true
in_path is_greedy c stays =
    not_from_false (nat_eq c 63)
    (false_from_ne_true (nat_eq c 63)
    (λ e. let never : true ≡ false = sym stays ∙ ap (stays_in_place is_greedy) (eqb-true c 63 e) ∙ no_mark is_greedy in cc))

all_in_path : (is_greedy : Bool) (text : List ℕ) → list_all (stays_in_place is_greedy) text ≡ true → list_all is_in_path text ≡ true
all_in_path is_greedy [] stay = refl
all_in_path is_greedy (c ∷ cs) stay =
    let both = and_parts (stays_in_place is_greedy c) (list_all (stays_in_place is_greedy) cs) stay in
    both_true (in_path is_greedy c both.0) (all_in_path is_greedy cs both.1)

before_if : (is_mark : Bool) (c : ℕ) (cs : List ℕ) (found : Option (List ℕ × List ℕ)) → nat_eq c 63 ≡ is_mark
    → list_all is_in_path (elim found [ Some halves ↦ halves.0 | None ↦ cs ]) ≡ true
    → list_all is_in_path (elim (if◌then◌else◌ {A = Option (List ℕ × List ℕ)} is_mark (Some ([], cs)) (option_map (λ halves. (c ∷ halves.0, halves.1)) found)) [
      | Some halves ↦ halves.0
      | None ↦ c ∷ cs
    ])
    ≡ true
before_if true c cs found e h = refl
before_if false c cs None e h = both_true (not_from_false (nat_eq c 63) e) h
before_if false c cs (Some halves) e h = both_true (not_from_false (nat_eq c 63) e) h

before_has : (uri : List ℕ) → list_all is_in_path (path_before uri) ≡ true
before_has [] = refl
before_has (c ∷ cs) = before_if (nat_eq c 63) c cs (around_first 63 cs) refl (before_has cs)

pieces_in : (is_json : Bool) (uri : List ℕ) → list_all (has_text is_in_path) (path_pieces is_json uri) ≡ true
pieces_in true uri = both_true (before_has uri) refl
pieces_in false uri = pieces_have is_in_path refl (path_before uri) (before_has uri)

fills : (is_greedy : Bool) (bytes : List ℕ) → list_all is_in_path (flat_map (escaped_byte (slashes_of is_greedy)) bytes) ≡ true
fills is_greedy bytes = all_in_path is_greedy (flat_map (escaped_byte (slashes_of is_greedy)) bytes) (bytes_stay is_greedy bytes)

pub no_query : (table : Table) (op : Operation) (value : Typed) (e : Endpoint) (m : Message)
    → list_all is_in_path e.path ≡ true → encoded table op value e ≡ Ok m → list_all is_in_path m.path ≡ true
no_query table op value e m h is =
    let asked = asked_of table op value in
    let made = then_ok (headers_due asked (host_of asked e)) (λ hs. Ok (message_with asked e hs)) m is in
    subst (λ (n : Message). list_all is_in_path n.path ≡ true) (ok_same (message_with asked e made.0) m made.1.1)
    (path_has is_in_path fills asked e h (pieces_in (is_json table.metadata.protocol) op.uri))
