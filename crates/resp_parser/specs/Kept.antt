-- What is kept of a value of a reply at a shape: the members that the model knows, under the model's
-- names and in its order. Null members go, null elements stay.
use Rattle.std.specs.Prelude.{ℕ, Bool, not, ◌&&◌, if◌then◌else◌, List, [], ◌∷◌, map, filter, slice_get, Option, None, Some, option_and_then, bytes_eq, codes}
use Rattle.std.specs.List.{list_any, flat_map}
use Rattle.json_doc.specs.declared.doc.Doc as doc
use Rattle.json_doc.specs.declared.doc.Doc.{Doc}
use Rattle.json_doc.specs.declared.doc.Doc.TheOpen.{Doc-F}
use Rattle.json_doc.specs.declared.doc.Doc.TheFolds.{fold-Doc}
use Rattle.service_model.specs.declared.shape.Member.{Member}
use Rattle.service_model.specs.declared.shape.Shape.{Shape}
use Rattle.service_model.specs.declared.shape.ShapeId.{ShapeId}
use Rattle.texts.specs.declared.pairs.Pair.{Pair}
use Rattle.texts.specs.Keys.{value_at}
use Rattle.resp_parser.specs.Kinds.{is_map, passes, is_null}

-- what is kept of a value at a shape; without one it stays as it is
abbrev pub Keep : Type 0
Keep = Option ShapeId → Doc

abbrev pub pair_of : {A : Type 0} → List ℕ → A → Pair A
pair_of key value = record { key = key; value = value }

-- the entries, each with what is made of its value
abbrev pub with_values : {X Y : Type 0} → (X → Y) → List (Pair X) → List (Pair Y)
with_values f ps = map (λ p. pair_of p.key (f p.value)) ps

abbrev pub as_it_is : Doc-F Keep → Doc
as_it_is Doc-F.Null = doc.Null
as_it_is (Doc-F.Flag flag) = doc.Flag flag
as_it_is (Doc-F.Number n) = doc.Number n
as_it_is (Doc-F.Str t) = doc.Str t
as_it_is (Doc-F.Items keeps) = doc.Items (map (λ keep. keep None) keeps)
as_it_is (Doc-F.Fields ps) = doc.Fields (with_values (λ keep. keep None) ps)

-- the member of an object for a member of the model, where there is a value that isn't null
abbrev pub entry_of : Member → Option Keep → List (Pair Doc)
entry_of m None = []
entry_of m (Some keep) = if is_null (keep None) then [] else pair_of m.name (keep (Some m.shape)) ∷ []

abbrev pub known_members : List Member → List (Pair Keep) → List (Pair Doc)
known_members members ps = flat_map (λ m. entry_of m (value_at m.wire ps)) members

-- the names in a reply that a union counts
abbrev pub is_counted : {X : Type 0} → (X → Bool) → Pair X → Bool
is_counted is_nothing p = not (bytes_eq p.key (codes "__type")) && not (is_nothing p.value)

abbrev pub is_sent : List Member → List ℕ → Bool
is_sent members wire = list_any (λ m. bytes_eq m.wire wire) members

-- the one key, where there is just one
abbrev pub only_key : {X : Type 0} → List (Pair X) → Option (List ℕ)
only_key [] = None
only_key (p ∷ []) = Some p.key
only_key (p ∷ q ∷ ps) = None

abbrev pub unless_sent : List Member → List ℕ → Option (List ℕ)
unless_sent members key = if is_sent members key then None else Some key

-- the name of a union's one member, where the model doesn't know it
abbrev pub unknown_tag : {X : Type 0} → (X → Bool) → Shape → List (Pair X) → Option (List ℕ)
unknown_tag is_nothing shape ps =
    if shape.is_union then option_and_then (unless_sent shape.members) (only_key (filter (is_counted is_nothing) ps)) else None

-- what tells of a member that the model doesn't know, in botocore's form
abbrev pub unknown_member : List ℕ → Doc
unknown_member tag =
    doc.Fields (pair_of (codes "SDK_UNKNOWN_MEMBER") (doc.Fields (pair_of (codes "name") (doc.Str tag) ∷ [])) ∷ [])

abbrev pub structure_kept : Shape → List (Pair Keep) → Option (List ℕ) → Doc
structure_kept shape ps None = doc.Fields (known_members shape.members ps)
structure_kept shape ps (Some tag) = unknown_member tag

abbrev pub fields_kept : Shape → List (Pair Keep) → Doc
fields_kept shape ps =
    if is_map shape.kind then doc.Fields (with_values (λ keep. keep shape.item) ps)
    else structure_kept shape ps (unknown_tag (λ keep. is_null (keep None)) shape ps)

-- what is inside a list, a map or a structure
abbrev pub inside_kept : Shape → Doc-F Keep → Doc
inside_kept shape (Doc-F.Items keeps) = doc.Items (map (λ keep. keep shape.item) keeps)
inside_kept shape (Doc-F.Fields ps) = fields_kept shape ps
inside_kept shape others = as_it_is others

abbrev pub shape_kept : Doc-F Keep → Option Shape → Doc
shape_kept value None = as_it_is value
shape_kept value (Some shape) = if passes shape then as_it_is value else inside_kept shape value

abbrev pub wanted_kept : List Shape → Doc-F Keep → Keep
wanted_kept shapes value None = as_it_is value
wanted_kept shapes value (Some id) = shape_kept value (slice_get shapes id.0)

-- what is kept of a whole value
abbrev pub kept_of : List Shape → Doc → Keep
kept_of shapes = fold-Doc Keep (wanted_kept shapes)
