-- Which values a shape takes, before their parts and sizes are looked at.
use Rattle.std.specs.Prelude.{Bool, true, false, ◌&&◌, ◌||◌, ℤ, pos, negsuc, int_le, int_lt, Option, None, Some}
use Rattle.service_model.specs.declared.shape.Kind.{Kind}
use Rattle.service_model.specs.declared.shape.Kind.TheVariants as kind
use Rattle.service_model.specs.declared.shape.Location.{Location}
use Rattle.service_model.specs.declared.shape.Location.TheVariants as location
use Rattle.service_model.specs.declared.shape.Shape.{Shape}
use Rattle.typed_value.specs.declared.typed.Typed.TheOpen.{Typed-F}

abbrev pub is_string : Kind → Bool
is_string kind.Str = true
is_string others = false

abbrev pub is_whole : Kind → Bool
is_whole kind.Integer = true
is_whole kind.Long = true
is_whole others = false

abbrev pub is_boolean : Kind → Bool
is_boolean kind.Boolean = true
is_boolean others = false

abbrev pub is_blob : Kind → Bool
is_blob kind.Blob = true
is_blob others = false

abbrev pub is_timestamp : Kind → Bool
is_timestamp kind.Timestamp = true
is_timestamp others = false

abbrev pub is_list : Kind → Bool
is_list kind.List = true
is_list others = false

abbrev pub is_map : Kind → Bool
is_map kind.Map = true
is_map others = false

abbrev pub is_structure : Kind → Bool
is_structure kind.Structure = true
is_structure others = false

abbrev pub is_header : Option Location → Bool
is_header (Some location.Header) = true
is_header others = false

-- microseconds since 1970 in the years 0001 to 9999
abbrev pub is_in_years : ℤ → Bool
is_in_years t = int_le (negsuc 62135596799999999) t && int_lt t (pos 253402300800000000)

-- the kinds of each value; nothing is a float or a double
abbrev pub takes_by_kind : {X : Type 0} → Kind → Typed-F X → Bool
takes_by_kind k (Typed-F.Text t) = is_string k
takes_by_kind k (Typed-F.Int n) = is_whole k
takes_by_kind k (Typed-F.Flag flag) = is_boolean k
takes_by_kind k (Typed-F.Blob bytes) = is_blob k
takes_by_kind k (Typed-F.Moment t) = is_timestamp k && is_in_years t
takes_by_kind k (Typed-F.Items xs) = is_list k
takes_by_kind k (Typed-F.Fields ps) = is_structure k || is_map k
takes_by_kind k others = false

abbrev pub is_document : {X : Type 0} → Typed-F X → Bool
is_document (Typed-F.Any doc) = true
is_document others = false

-- a value of the shape's kind; a document shape, and a header that holds a document, take one
abbrev pub takes : {X : Type 0} → Bool → Shape → Typed-F X → Bool
takes is_json shape value = takes_by_kind shape.kind value || ((is_json || shape.document) && is_document value)

-- no less than the least one, where there is one
abbrev pub is_enough : Option ℤ → ℤ → Bool
is_enough None n = true
is_enough (Some least) n = int_le least n
