-- Members of a reply that stand in its headers (botocore's rest-json).
use Rattle.std.specs.Prelude.{◌≡◌, ℕ, ◌+◌, ◌==◌, ◌^◌, ℤ, nat_lt, Bool, true, false, not, ◌&&◌, if◌then◌else◌, List, [], ◌∷◌, ◌++◌, map, length, filter, Option, None, Some, Result, Ok, Err, bytes_eq, codes, encode_utf8_all, option_map, option_to_list}
use Rattle.std.specs.Char.{eq_ignore_ascii_case}
use Rattle.std.specs.List.{flat_map}
use Rattle.std.specs.Str.{all_ascii_digits}
use Rattle.std.specs.Str.Parse.{digits_value}
use Rattle.base64.specs.GeneralPurpose.{decode_of}
use Rattle.base64.specs.Engines.{standard}
use Rattle.json_doc.specs.declared.decimal.Decimal.{Decimal}
use Rattle.json_doc.specs.declared.doc.Doc as doc
use Rattle.json_doc.specs.declared.doc.Doc.{Doc}
use Rattle.json_doc.specs.DecimalValue.{signed}
use Rattle.service_model.specs.declared.shape.Kind.{Kind}
use Rattle.service_model.specs.declared.shape.Kind.TheVariants as kind
use Rattle.texts.specs.Blanks.{trimmed}
use Rattle.texts.specs.Cut.{cut, is_among}
use Rattle.texts.specs.declared.pairs.Pair.{Pair}
use Rattle.texts.specs.Keys.{value_at}
use Rattle.resp_parser.specs.Bodies.{DocumentOf}
use Rattle.resp_parser.specs.Kept.{pair_of}
use Rattle.resp_parser.specs.Kinds.{is_null}
use Rattle.resp_parser.specs.Paths.{Path}
use Rattle.resp_parser.specs.Steps.{Step}

-- the parts of a text between commas; an empty text is one part
abbrev pub parts_of : List ℕ → List (List ℕ)
parts_of text = cut (is_among (codes ",")) text

-- a whole number of 64 bits with a sign, given its digits
abbrev pub within : Bool → List ℕ → Option ℤ
within is_negative digits =
    if not (length digits == 0) && all_ascii_digits digits && nat_lt (digits_value 10 digits) (if is_negative then 2 ^ 63 + 1 else 2 ^ 63)
    then Some (signed is_negative (digits_value 10 digits)) else None

-- the number of the bytes of digits, with a `-` before them or not
abbrev pub whole_of : List ℕ → Option ℤ
whole_of [] = None
whole_of (c ∷ cs) = if c == 45 then within true cs else within false (c ∷ cs)

-- a document is this whole number
abbrev pub IsNumber : ℤ → Doc → Type 0
IsNumber n d = (m : Decimal) × (d ≡ doc.Number m) × (signed m.is_negative m.magnitude ≡ n) × (m.scale ≡ 0)

-- the number of a text that is one, else the text
abbrev pub IsNumberOr : List ℕ → Option ℤ → Doc → Type 0
IsNumberOr text None d = d ≡ doc.Str text
IsNumberOr text (Some n) d = IsNumber n d

-- what a header's text is as a value of this kind
abbrev pub IsHeaderText : Kind → List ℕ → Doc → Type 0
IsHeaderText kind.Integer text d = IsNumberOr text (whole_of (encode_utf8_all text)) d
IsHeaderText kind.Long text d = IsNumberOr text (whole_of (encode_utf8_all text)) d
IsHeaderText kind.Boolean text d = d ≡ doc.Flag (bytes_eq text (codes "true"))
IsHeaderText kind.List text d = d ≡ doc.Items (map (λ part. doc.Str (trimmed part)) (parts_of text))
IsHeaderText others text d = d ≡ doc.Str text

-- a document, unless it is null
abbrev pub unless_null : Doc → Option Doc
unless_null d = if is_null d then None else Some d

abbrev pub decoded_if : Option Doc → Result (Option Doc) Path
decoded_if None = Err []
decoded_if (Some d) = Ok (unless_null d)

-- the document whose text the bytes are, in base64 (RFC 4648, section 4)
abbrev pub Decodes : {E : Type 0} → Result (List ℕ) E → Option Doc → Type 0
Decodes (Ok bytes) d = DocumentOf bytes d
Decodes (Err e) d = d ≡ None

-- a header that is a JSON document
abbrev pub JsonHeader : List ℕ → Step (Option Doc) Path
JsonHeader text answer = (d : Option Doc) × Decodes (decode_of standard (encode_utf8_all text)) d × (answer ≡ decoded_if d)

abbrev pub TextHeader : Kind → List ℕ → Step (Option Doc) Path
TextHeader k text (Ok None) = ⊥
TextHeader k text (Ok (Some d)) = IsHeaderText k text d
TextHeader k text (Err path) = ⊥

abbrev pub HeaderOf : Bool → Kind → List ℕ → Step (Option Doc) Path
HeaderOf true k text answer = JsonHeader text answer
HeaderOf false k text answer = TextHeader k text answer

-- what a member is of its header, where there is one
abbrev pub HeaderValue : Bool → Kind → Option (List ℕ) → Step (Option Doc) Path
HeaderValue is_json k None answer = answer ≡ Ok None
HeaderValue is_json k (Some text) answer = HeaderOf is_json k text answer

-- the rest of a name that starts with a prefix, in any letter case
abbrev pub rest_behind : List ℕ → List ℕ → Option (List ℕ)
rest_behind [] name = Some name
rest_behind (p ∷ ps) [] = None
rest_behind (p ∷ ps) (c ∷ cs) = if eq_ignore_ascii_case p c then rest_behind ps cs else None

-- the first entry of each key
abbrev pub firsts : {A : Type 0} → List (Pair A) → List (Pair A)
firsts [] = []
firsts (p ∷ ps) = p ∷ filter (λ q. not (bytes_eq q.key p.key)) (firsts ps)

-- the entries with one more, unless its key is there
abbrev pub unless_there : {A : Type 0} → Option A → List (Pair A) → Pair A → List (Pair A)
unless_there None ps p = ps ++ p ∷ []
unless_there (Some value) ps p = ps

abbrev pub with_first : {A : Type 0} → List (Pair A) → Pair A → List (Pair A)
with_first ps p = unless_there (value_at p.key ps) ps p

abbrev pub entry_behind : List ℕ → List ℕ × List ℕ → Option (Pair Doc)
entry_behind prefix h = option_map (λ rest. pair_of rest (doc.Str h.1)) (rest_behind prefix h.0)

-- the headers behind a prefix
abbrev pub headers_behind : List ℕ → List (List ℕ × List ℕ) → List (Pair Doc)
headers_behind prefix headers = firsts (flat_map (λ h. option_to_list (entry_behind prefix h)) headers)
