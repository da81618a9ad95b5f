-- The functions of AWS's "Endpoint rules engine", one by one ("Rules engine standard library functions" of the
-- Smithy documentation). Where a value is needed, null gives null unless a function says otherwise, and a
-- value of another kind is a clash, also beside a null.
use Rattle.std.specs.Prelude.{ℕ, ◌-◌, ◌/◌, ◌%◌, ◌&&◌, ◌||◌, Bool, true, false, not, nat_eq, nat_lt, nat_le, if◌then◌else◌, List, [], ◌∷◌, length, slice_index, slice_range, flat_map, Option, None, Some, unwrap_or, Result, Ok, Err, codes, bytes_eq, encode_utf8_all}
use Rattle.std.specs.Char.{is_ascii_alphanumeric}
use Rattle.json_doc.specs.declared.doc.Doc.{Doc}
use Rattle.json_doc.specs.declared.doc.Doc.TheVariants as doc
use Rattle.json_doc.specs.declared.doc.Doc.TheOpen.{Doc-F}
use Rattle.json_doc.specs.declared.doc.Doc.TheViews.{out-Doc}
use Rattle.texts.specs.Ascii.{is_ascii_text}
use Rattle.texts.specs.Calls.{◌>>=◌}
use Rattle.rule_terms.specs.declared.function.Function.{Function}
use Rattle.rule_terms.specs.declared.function.Function.TheVariants as function
use Rattle.rule_sets.specs.declared.partitions.Partition.{Partition}
use Rattle.endpoint_rules.specs.declared.stop.Stop.{Stop}
use Rattle.endpoint_rules.specs.declared.stop.Stop.TheVariants.{Clash}
use Rattle.endpoint_rules.specs.Arns.{arn_of}
use Rattle.rule_terms.specs.Attributes.{attribute_of}
use Rattle.endpoint_rules.specs.HostLabels.{is_host_label}
use Rattle.endpoint_rules.specs.Kinds.{text_or_null, flag_or_null, whole_or_null}
use Rattle.rule_sets.specs.Partitions.{outputs_for}
use Rattle.endpoint_rules.specs.Urls.{url_value}
use Rattle.uri_texts.specs.declared.escapes.Slashes.TheVariants.{Escaped}
use Rattle.uri_texts.specs.Escapes.{escaped}

abbrev pub Value : Type 0
Value = Result Doc Stop

-- what is made of a needed value; null where there is none
abbrev pub of_there : {A : Type 0} → (A → Doc) → Option A → Doc
of_there f None = doc.Null
of_there f (Some x) = f x

abbrev pub is_null_in : Doc-F Doc → Bool
is_null_in Doc-F.Null = true
is_null_in others = false

-- `isSet`: "Evaluates whether a value, such as an endpoint parameter, is set."
abbrev pub is_set : Doc → Doc
is_set value = doc.Flag (not (is_null_in (out-Doc value)))

-- `not`: "Performs logical negation on the provided Boolean value." Null counts as false.
abbrev pub not_of : Doc → Value
not_of value = do
  flag ← flag_or_null value
  Ok (doc.Flag (not (unwrap_or flag false)))

abbrev pub attribute_or_null : Doc → List ℕ → Doc
attribute_or_null value path = unwrap_or (attribute_of path value) doc.Null

-- `getAttr`: "Extracts a value at the given path from an object type or an array type." Null where there is none.
abbrev pub get_attr : Doc → Doc → Value
get_attr value path = do
  path ← text_or_null path
  Ok (of_there (attribute_or_null value) path)

-- the part of a text between two places: the start is within, the end isn't. With `reverse` they count from the
-- text's end. There is none where the text isn't ASCII, the places don't ascend or the text is too short.
abbrev pub part_between : List ℕ → ℕ → ℕ → Bool → Option (List ℕ)
part_between text start end reverse =
    if is_ascii_text text && nat_lt start end && nat_le end (length text)
    then Some (if reverse then slice_range text (length text - end) (length text - start) else slice_range text start end)
    else None

abbrev pub part_there : Option (List ℕ) → Option ℕ → Option ℕ → Option Bool → Option (List ℕ)
part_there (Some text) (Some start) (Some end) (Some reverse) = part_between text start end reverse
part_there text start end reverse = None

-- `substring`: "Computes a portion of a given string based on the provided start and end indices."
abbrev pub substring : Doc → Doc → Doc → Doc → Value
substring text start end reverse = do
  text ← text_or_null text
  start ← whole_or_null start
  end ← whole_or_null end
  reverse ← flag_or_null reverse
  Ok (of_there doc.Str (part_there text start end reverse))

abbrev pub same_texts : Option (List ℕ) → Option (List ℕ) → Bool
same_texts (Some a) (Some b) = bytes_eq a b
same_texts (Some a) None = false
same_texts None b = false

-- `stringEquals`: "Evaluates whether two strings are equal." False where either is null.
abbrev pub string_equals : Doc → Doc → Value
string_equals a b = do
  a ← text_or_null a
  b ← text_or_null b
  Ok (doc.Flag (same_texts a b))

abbrev pub same_bools : Bool → Bool → Bool
same_bools true b = b
same_bools false b = not b

abbrev pub same_flags : Option Bool → Option Bool → Bool
same_flags (Some a) (Some b) = same_bools a b
same_flags (Some a) None = false
same_flags None b = false

-- `booleanEquals`: "Evaluates whether two Boolean values are equal." False where either is null.
abbrev pub boolean_equals : Doc → Doc → Value
boolean_equals a b = do
  a ← flag_or_null a
  b ← flag_or_null b
  Ok (doc.Flag (same_flags a b))

-- `uriEncode`: "Performs RFC 3986#section-2.1 defined percent-encoding on the input value." All but the unreserved
-- characters is escaped.
abbrev pub uri_encode : Doc → Value
uri_encode text = do
  text ← text_or_null text
  Ok (of_there (λ text. doc.Str (escaped Escaped text)) text)

-- `parseURL`: "Computes a URL object given an input string."
abbrev pub parse_url : Doc → Value
parse_url text = do
  text ← text_or_null text
  Ok (of_there (λ text. url_value (encode_utf8_all text)) text)

abbrev pub label_there : Option (List ℕ) → Option Bool → Doc
label_there (Some text) (Some dots) = doc.Flag (is_host_label text dots)
label_there (Some text) None = doc.Null
label_there None dots = doc.Null

-- `isValidHostLabel`: "Evaluates whether the input string is a compliant RFC 1123 host segment."
abbrev pub is_valid_host_label : Doc → Doc → Value
is_valid_host_label text dots = do
  text ← text_or_null text
  dots ← flag_or_null dots
  Ok (label_there text dots)

-- `aws.partition`: "Computes a partition object for a given region."
abbrev pub partition : List Partition → Doc → Value
partition partitions region = do
  region ← text_or_null region
  Ok (of_there (λ region. unwrap_or (outputs_for region partitions) doc.Null) region)

-- `aws.parseArn`: "Computes an ARN object given an input string, or returns no value if the string is not a valid ARN."
abbrev pub parse_arn : Doc → Value
parse_arn text = do
  text ← text_or_null text
  Ok (of_there arn_of text)

-- the functions of one argument; another is none of these, as reading has judged
abbrev pub of_one : List Partition → Function → Doc → Value
of_one partitions function.IsSet x = Ok (is_set x)
of_one partitions function.Not x = not_of x
of_one partitions function.UriEncode x = uri_encode x
of_one partitions function.ParseUrl x = parse_url x
of_one partitions function.Partition x = partition partitions x
of_one partitions function.ParseArn x = parse_arn x
of_one partitions others x = Err Clash

-- the functions of two
abbrev pub of_two : Function → Doc → Doc → Value
of_two function.GetAttr x y = get_attr x y
of_two function.StringEquals x y = string_equals x y
of_two function.BooleanEquals x y = boolean_equals x y
of_two function.IsValidHostLabel x y = is_valid_host_label x y
of_two others x y = Err Clash

-- the function of four
abbrev pub of_four : Function → Doc → Doc → Doc → Doc → Value
of_four function.Substring a b c d = substring a b c d
of_four others a b c d = Err Clash

-- the value of a function for the values of its arguments
abbrev pub applied : List Partition → Function → List Doc → Value
applied partitions f (x ∷ []) = of_one partitions f x
applied partitions f (x ∷ y ∷ []) = of_two f x y
applied partitions f (a ∷ b ∷ c ∷ d ∷ []) = of_four f a b c d
applied partitions f others = Err Clash
