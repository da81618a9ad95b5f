-- What each character of a path passes: the endpoint's, the operation's, and what fills a label.
use Rattle.std.proofs.Common.{◌≡◌, ℕ, Bool, true, false, List, [], ◌∷◌, Option, None, Some, refl, ◌∙◌, if◌then◌else◌}
use Rattle.std.specs.Prelude.{nat_eq, flat_map, option_map, unwrap_or, encode_utf8_all}
use Rattle.std.specs.Cmp.Derive.{both_true}
use Rattle.std.specs.List.{list_all}
use Rattle.std.proofs.lemmas.Bool.{and_parts}
use Rattle.std.proofs.lemmas.List.Folds.{list_all-append}
use Rattle.endpoint_rules.specs.declared.endpoint.Endpoint.{Endpoint}
use Rattle.service_model.specs.declared.shape.Member.{Member}
use Rattle.service_model.specs.Admission.{members_at}
use Rattle.texts.specs.Marks.{without_last}
use Rattle.uri_texts.specs.declared.templates.Piece.{Piece}
use Rattle.uri_texts.specs.declared.templates.Piece.TheVariants.{Plain, Label}
use Rattle.uri_texts.specs.Escapes.{escaped_byte}
use Rattle.serializer.specs.declared.labels.Labelled.TheVariants.{Path}
use Rattle.serializer.specs.Faults.{Asked}
use Rattle.serializer.specs.Labels.{label_text, slashes_of, path_piece, path_text}
use Rattle.serializer.specs.Messages.{base_path, path_of}
use Rattle.serializer.proofs.PieceTexts.{has_text}

module _ (p : ℕ → Bool) where
  abbrev HasAll : Option (List ℕ) → Type 0
  HasAll None = Unit {0}
  HasAll (Some text) = list_all p text ≡ true

  front_behind : (c : ℕ) (found : Option (List ℕ)) → p c ≡ true → HasAll found → HasAll (option_map (λ front. c ∷ front) found)
  front_behind c None h k = tt
  front_behind c (Some front) h k = both_true h k

  none_or_last : (b : Bool) → HasAll (if b then Some [] else None)
  none_or_last true = refl
  none_or_last false = tt

  front_has : (path : List ℕ) → list_all p path ≡ true → HasAll (without_last 47 path)
  front_has [] h = tt
  front_has (c ∷ []) h = none_or_last (nat_eq c 47)
  front_has (c ∷ d ∷ ds) h =
      let both = and_parts (p c) (list_all p (d ∷ ds)) h in
      front_behind c (without_last 47 (d ∷ ds)) both.0 (front_has (d ∷ ds) both.1)

  or_whole : (found : Option (List ℕ)) (path : List ℕ) → HasAll found → list_all p path ≡ true → list_all p (unwrap_or found path) ≡ true
  or_whole None path h k = k
  or_whole (Some front) path h k = h

  pub base_has : (path : List ℕ) → list_all p path ≡ true → list_all p (base_path path) ≡ true
  base_has path h = or_whole (without_last 47 path) path (front_has path h) h

module _ (p : ℕ → Bool) (fills : (is_greedy : Bool) (bytes : List ℕ) → list_all p (flat_map (escaped_byte (slashes_of is_greedy)) bytes) ≡ true) where
  text_has : (asked : Asked) (ms : List Member) (pieces : List Piece) → list_all (has_text p) pieces ≡ true
      → list_all p (path_text asked.table.shapes ms asked.fields pieces) ≡ true
  text_has asked ms [] h = refl
  text_has asked ms (Plain text ∷ pieces) h =
      let both = and_parts (list_all p text) (list_all (has_text p) pieces) h in
      list_all-append p text (path_text asked.table.shapes ms asked.fields pieces) ∙ both_true both.0 (text_has asked ms pieces both.1)
  text_has asked ms (Label name is_greedy ∷ pieces) h =
      let piece = path_piece asked.table.shapes ms asked.fields (Label name is_greedy) in
      list_all-append p piece (path_text asked.table.shapes ms asked.fields pieces)
      ∙ both_true (fills is_greedy (encode_utf8_all (label_text asked.table.shapes Path ms asked.fields name)))
      (text_has asked ms pieces h)

  pub path_has : (asked : Asked) (e : Endpoint) → list_all p e.path ≡ true → list_all (has_text p) asked.path ≡ true
      → list_all p (path_of asked e) ≡ true
  path_has asked e h plain =
      let members = members_at asked.table.shapes asked.op.input in
      list_all-append p (base_path e.path) (path_text asked.table.shapes members asked.fields asked.path)
      ∙ both_true (base_has p e.path h) (text_has asked members asked.path plain)
