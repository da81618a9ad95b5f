-- A path is there where its template begins with a slash.
use Rattle.std.proofs.Common.{◌≡◌, ℕ, ◌<◌, Bool, true, false, List, [], ◌∷◌, ◌++◌, Option, None, Some, refl, sym, subst, if◌then◌else◌, arith}
use Rattle.std.specs.Prelude.{Ok, flat_map, length, option_map}
use Rattle.std.specs.List.{slice_split, onto_first}
use Rattle.aws_world.specs.declared.message.Message.{Message}
use Rattle.endpoint_rules.specs.declared.endpoint.Endpoint.{Endpoint}
use Rattle.service_model.specs.declared.model.Table.{Table}
use Rattle.service_model.specs.declared.operation.Operation.{Operation}
use Rattle.service_model.specs.declared.shape.Member.{Member}
use Rattle.service_model.specs.Admission.{members_at}
use Rattle.texts.specs.Cut.{is_among}
use Rattle.texts.specs.Marks.{around_first}
use Rattle.typed_value.specs.declared.typed.Typed.{Typed}
use Rattle.uri_texts.specs.declared.templates.Piece.TheVariants.{Plain}
use Rattle.uri_texts.specs.Templates.{pieces, pieces_behind, pieces_between}
use Rattle.serializer.specs.Faults.{Asked}
use Rattle.serializer.specs.Labels.{path_piece, path_text}
use Rattle.serializer.specs.Laws.{IsRooted}
use Rattle.serializer.specs.Members.{is_json}
use Rattle.serializer.specs.Messages.{asked_of, base_path, path_before, host_of, headers_due, message_with, encoded}
use Rattle.serializer.proofs.CleanHeaders.{then_ok, ok_same}

halves_rooted : (found : Option (List ℕ × List ℕ)) (rest : List ℕ)
    → IsRooted (elim (option_map {U = List ℕ × List ℕ} (λ (halves : List ℕ × List ℕ). (47 ∷ halves.0, halves.1)) found) [ Some halves ↦ halves.0 | None ↦ 47 ∷ rest ])
halves_rooted None rest = (rest, refl)
halves_rooted (Some halves) rest = (halves.0, refl)

before_rooted : (uri : List ℕ) → IsRooted uri → IsRooted (path_before uri)
before_rooted uri h = subst (λ text. IsRooted (path_before text)) (sym h.1) (halves_rooted (around_first 63 h.0) h.0)

first_rooted : (asked : Asked) (ms : List Member) (parts : List (List ℕ))
    → IsRooted (path_text asked.table.shapes ms asked.fields (pieces_between (onto_first 47 parts)))
first_rooted asked ms [] = ([], refl)
first_rooted asked ms (part ∷ parts) = (part ++ flat_map (path_piece asked.table.shapes ms asked.fields) (flat_map pieces_behind parts), refl)

from_root : (asked : Asked) (ms : List Member) (is_json : Bool) (rest : List ℕ)
    → IsRooted (path_text asked.table.shapes ms asked.fields (if is_json then Plain (47 ∷ rest) ∷ [] else pieces (47 ∷ rest)))
from_root asked ms true rest = (rest ++ [], refl)
from_root asked ms false rest = first_rooted asked ms (slice_split (is_among (123 ∷ [])) rest)

text_rooted : (asked : Asked) (ms : List Member) (is_json : Bool) (text : List ℕ) → IsRooted text
    → IsRooted (path_text asked.table.shapes ms asked.fields (if is_json then Plain text ∷ [] else pieces text))
text_rooted asked ms is_json text h =
    subst (λ t. IsRooted (path_text asked.table.shapes ms asked.fields (if is_json then Plain t ∷ [] else pieces t))) (sym h.1) (from_root asked ms is_json h.0)

begun : (xs rest : List ℕ) → 0 < length (xs ++ 47 ∷ rest)
begun [] rest = omega arith
begun (x ∷ xs) rest = omega arith

there : (xs ys : List ℕ) → IsRooted ys → 0 < length (xs ++ ys)
there xs ys h = subst (λ t. 0 < length (xs ++ t)) (sym h.1) (begun xs h.0)

pub paths_there : (table : Table) (op : Operation) (value : Typed) (e : Endpoint) (m : Message) → IsRooted op.uri → encoded table op value e ≡ Ok m
    → 0 < length m.path
paths_there table op value e m h is =
    let asked = asked_of table op value in
    let made = then_ok (headers_due asked (host_of asked e)) (λ hs. Ok (message_with asked e hs)) m is in
    let rooted =
    text_rooted asked (members_at asked.table.shapes asked.op.input) (is_json table.metadata.protocol) (path_before op.uri) (before_rooted op.uri h) in
    subst (λ (n : Message). 0 < length n.path) (ok_same (message_with asked e made.0) m made.1.1)
    (there (base_path e.path) (path_text asked.table.shapes (members_at asked.table.shapes asked.op.input) asked.fields asked.path) rooted)
