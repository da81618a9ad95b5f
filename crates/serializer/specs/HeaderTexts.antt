-- Members in headers.
use Rattle.std.specs.Prelude.{ℕ, Bool, nat_eq, ◌||◌, if◌then◌else◌, List, [], ◌∷◌, ◌++◌, map, Option, None, Some, codes, encode_utf8_all}
use Rattle.std.specs.List.{list_any, flat_map}
use Rattle.service_model.specs.declared.shape.Location.{Location}
use Rattle.service_model.specs.declared.shape.Location.TheVariants as location
use Rattle.service_model.specs.declared.shape.Member.{Member}
use Rattle.service_model.specs.declared.shape.Shape.{Shape}
use Rattle.service_model.specs.declared.shape.ShapeId.{ShapeId}
use Rattle.service_model.specs.declared.shape.TimeForm.TheVariants as form
use Rattle.service_model.specs.Kept.{item_at}
use Rattle.texts.specs.Joined.{joined}
use Rattle.texts.specs.declared.pairs.Pair.{Pair}
use Rattle.typed_value.specs.declared.typed.Typed.{Typed, out-Typed}
use Rattle.typed_value.specs.declared.typed.Typed.TheOpen.{Typed-F}
use Rattle.value_texts.specs.declared.slot.Slot.{Slot}
use Rattle.value_texts.specs.Dense.{dense_of}
use Rattle.value_texts.specs.Quoted.{quoted}
use Rattle.value_texts.specs.Scalars.{base64_text, text_at}
use Rattle.value_texts.specs.Slots.{slot_of_shape, slot_of_member}

-- a comma or a quotation mark
abbrev pub is_mark : ℕ → Bool
is_mark c = nat_eq c 44 || nat_eq c 34

-- a comma or a quotation mark stands in it
abbrev pub is_quoted : List ℕ → Bool
is_quoted text = list_any is_mark text

-- `\` before a quotation mark and before itself
abbrev pub quoted_character : ℕ → List ℕ
quoted_character c = if nat_eq c 34 || nat_eq c 92 then 92 ∷ c ∷ [] else c ∷ []

-- a quoted string where it must be one (RFC 9110, section 5.6.4)
abbrev pub list_item : List ℕ → List ℕ
list_item text = if is_quoted text then 34 ∷ flat_map quoted_character text ++ 34 ∷ [] else text

abbrev pub item_text : List Shape → Slot → Typed → List ℕ
item_text shapes slot v = list_item (text_at shapes form.Rfc822 slot v)

abbrev pub list_items : List Shape → Option ShapeId → List Typed → List (List ℕ)
list_items shapes None vs = []
list_items shapes (Some id) vs = map (item_text shapes (slot_of_shape id)) vs

-- the items of a list with a comma between each two
abbrev pub list_value : List Shape → ShapeId → List Typed → List ℕ
list_value shapes list vs = joined (codes ",") (list_items shapes (item_at shapes list) vs)

-- a document, or a text as one
abbrev pub json_header : {X : Type 0} → Typed-F X → List ℕ
json_header (Typed-F.Any doc) = dense_of doc
json_header (Typed-F.Text t) = quoted t
json_header others = []

abbrev pub plain_value : List Shape → Member → Typed → Typed-F Typed → List ℕ
plain_value shapes m v (Typed-F.Items vs) = list_value shapes m.shape vs
plain_value shapes m v others = text_at shapes form.Rfc822 (slot_of_member m) v

-- a JSON header is base64 of the document's text without blanks
abbrev pub header_value : List Shape → Member → Typed → List ℕ
header_value shapes m v =
    if m.json_value then base64_text (encode_utf8_all (json_header (out-Typed v))) else plain_value shapes m v (out-Typed v)

abbrev pub entry_header : List Shape → List ℕ → ShapeId → Pair Typed → List ℕ × List ℕ
entry_header shapes prefix id p = (prefix ++ p.key, text_at shapes form.Rfc822 (slot_of_shape id) p.value)

abbrev pub entry_headers : List Shape → List ℕ → Option ShapeId → List (Pair Typed) → List (List ℕ × List ℕ)
entry_headers shapes prefix None ps = []
entry_headers shapes prefix (Some id) ps = map (entry_header shapes prefix id) ps

-- a map gives its keys behind the member's name
abbrev pub map_headers : List Shape → Member → Typed-F Typed → List (List ℕ × List ℕ)
map_headers shapes m (Typed-F.Fields ps) = entry_headers shapes m.wire (item_at shapes m.shape) ps
map_headers shapes m others = []

abbrev pub headers_at : List Shape → Member → Typed → Option Location → List (List ℕ × List ℕ)
headers_at shapes m v (Some location.Header) = (m.wire, header_value shapes m v) ∷ []
headers_at shapes m v (Some location.Headers) = map_headers shapes m (out-Typed v)
headers_at shapes m v others = []

-- the headers of a member with its value
abbrev pub member_headers : List Shape → Member → Typed → List (List ℕ × List ℕ)
member_headers shapes m v = headers_at shapes m v m.location
