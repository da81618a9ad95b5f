-- Identifiers of members that are to have one: RFC 9562, section 5.4, version 4.
use Rattle.std.specs.Prelude.{ℕ, Bool, false, ◌&&◌, if◌then◌else◌, List, [], ◌∷◌, Option, is_none, slice_index}
use Rattle.std.specs.Int.{w32, to_be_bytes}
use Rattle.std.specs.List.{list_any, flat_map}
use Rattle.service_model.specs.declared.shape.Member.{Member}
use Rattle.service_model.specs.declared.shape.Shape.{Shape}
use Rattle.service_model.specs.declared.shape.ShapeId.{ShapeId}
use Rattle.service_model.specs.Admission.{members_at}
use Rattle.texts.specs.Keys.{value_at, put}
use Rattle.texts.specs.declared.pairs.Pair.{Pair}
use Rattle.typed_value.specs.declared.typed.Typed.{Typed, out-Typed}
use Rattle.typed_value.specs.declared.typed.Typed.TheVariants as typed
use Rattle.typed_value.specs.declared.typed.Typed.TheOpen.{Typed-F}
use Rattle.uuid.specs.declared.Variant.TheVariants.{RFC4122}
use Rattle.uuid.specs.declared.Version.TheVariants.{Random}
use Rattle.uuid.specs.Parts.{with_variant, with_version}
use Rattle.uuid.specs.Text.{hyphenated_text, lower}

-- a member that is to have an identifier has no value
abbrev pub lacks_token : {X : Type 0} → List (Pair X) → Member → Bool
lacks_token ps m = m.token && is_none (value_at m.name ps)

abbrev pub needs_token : {X : Type 0} → List Shape → Option ShapeId → Typed-F X → Bool
needs_token shapes input (Typed-F.Fields ps) = list_any (lacks_token ps) (members_at shapes input)
needs_token shapes input others = false

-- the values with the identifier at each such member
abbrev pub filled : List ℕ → List (Pair Typed) → List Member → List (Pair Typed)
filled identifier ps [] = ps
filled identifier ps (m ∷ ms) =
    filled identifier (if lacks_token ps m then put ps m.name (typed.Text identifier) else ps) ms

-- the bytes of four words, each from the greatest to the least
abbrev pub bytes_of : List ℕ → List ℕ
bytes_of words = flat_map (λ i. to_be_bytes w32 (slice_index words i)) (0 ∷ 1 ∷ 2 ∷ 3 ∷ [])

-- the text of the identifier that is made of four words
abbrev pub identifier : List ℕ → List ℕ
identifier words = hyphenated_text lower (with_version (with_variant (bytes_of words) RFC4122) Random)

abbrev pub with_text : List Member → List ℕ → Typed → Typed-F Typed → Typed
with_text members text value (Typed-F.Fields ps) = typed.Fields (filled text ps members)
with_text members text value others = value

-- the value with one identifier at each member that is to have one and has no value
abbrev pub with_token : List Shape → Option ShapeId → List ℕ → Typed → Typed
with_token shapes input words value = with_text (members_at shapes input) (identifier words) value (out-Typed value)
