-- Labels: the members that fill them, and their texts.
use Rattle.std.specs.Prelude.{ℕ, Bool, true, false, ◌&&◌, if◌then◌else◌, List, [], ◌∷◌, Option, None, Some, bytes_eq}
use Rattle.std.specs.List.{list_any, flat_map}
use Rattle.service_model.specs.declared.shape.Member.{Member}
use Rattle.service_model.specs.declared.shape.Shape.{Shape}
use Rattle.service_model.specs.declared.shape.TimeForm.TheVariants as form
use Rattle.service_model.specs.Kept.{is_uri}
use Rattle.texts.specs.Keys.{value_at}
use Rattle.texts.specs.declared.pairs.Pair.{Pair}
use Rattle.typed_value.specs.declared.typed.Typed.{Typed}
use Rattle.uri_texts.specs.declared.escapes.Slashes.{Slashes}
use Rattle.uri_texts.specs.declared.escapes.Slashes.TheVariants as slashes
use Rattle.uri_texts.specs.declared.templates.Piece.{Piece}
use Rattle.uri_texts.specs.declared.templates.Piece.TheVariants.{Plain, Label}
use Rattle.uri_texts.specs.Escapes.{escaped}
use Rattle.serializer.specs.declared.labels.Labelled.{Labelled}
use Rattle.serializer.specs.declared.labels.Labelled.TheVariants.{Path, Host}
use Rattle.value_texts.specs.Scalars.{text_at}
use Rattle.value_texts.specs.Slots.{slot_of_member}

-- labels of a path are filled by members that stand in URIs, those of a host prefix by members for it
abbrev pub can_fill : Labelled → Member → Bool
can_fill Path m = is_uri m.location
can_fill Host m = m.host_label

-- a member fills the label that has its wire name
abbrev pub fills : Labelled → List ℕ → Member → Bool
fills place name m = can_fill place m && bytes_eq m.wire name

abbrev pub fills_piece : Labelled → Member → Piece → Bool
fills_piece place m (Plain text) = false
fills_piece place m (Label name is_greedy) = fills place name m

-- a member fills one of a template's labels
abbrev pub has_label : Labelled → List Piece → Member → Bool
has_label place pieces m = list_any (fills_piece place m) pieces

abbrev pub given_text : List Shape → Member → Option Typed → List ℕ
given_text shapes m None = []
given_text shapes m (Some v) = text_at shapes form.Iso8601 (slot_of_member m) v

-- the text of a member in a label; nothing where it has no value
abbrev pub member_text : List Shape → List (Pair Typed) → Member → List ℕ
member_text shapes ps m = given_text shapes m (value_at m.name ps)

-- the text of a label: that of the first member that fills it
abbrev pub label_text : List Shape → Labelled → List Member → List (Pair Typed) → List ℕ → List ℕ
label_text shapes place [] ps name = []
label_text shapes place (m ∷ ms) ps name = if fills place name m then member_text shapes ps m else label_text shapes place ms ps name

-- only a greedy label keeps slashes
abbrev pub slashes_of : Bool → Slashes
slashes_of true = slashes.Kept
slashes_of false = slashes.Escaped

abbrev pub path_piece : List Shape → List Member → List (Pair Typed) → Piece → List ℕ
path_piece shapes members ps (Plain text) = text
path_piece shapes members ps (Label name is_greedy) = escaped (slashes_of is_greedy) (label_text shapes Path members ps name)

-- a path with its labels filled, and what is not unreserved in them escaped
abbrev pub path_text : List Shape → List Member → List (Pair Typed) → List Piece → List ℕ
path_text shapes members ps pieces = flat_map (path_piece shapes members ps) pieces

abbrev pub host_piece : List Shape → List Member → List (Pair Typed) → Piece → List ℕ
host_piece shapes members ps (Plain text) = text
host_piece shapes members ps (Label name is_greedy) = label_text shapes Host members ps name

-- a host prefix with its labels filled
abbrev pub host_text : List Shape → List Member → List (Pair Typed) → List Piece → List ℕ
host_text shapes members ps pieces = flat_map (host_piece shapes members ps) pieces
