-- The value of a text at a shape. A structure or a map is JSON where the text, behind blanks, begins with `{`, and
-- shorthand otherwise. A place that takes JSON alone takes no other text. A list is JSON where it is one text that
-- begins with `[`; otherwise each text is an element, unless the elements are lists.
use Rattle.std.specs.Prelude.{◌≡◌, ℕ, ◌+◌, List, [], ◌∷◌, slice_get, MatchBool, Option, None, Some, Result, Ok, Err, encode_utf8_all}
use Rattle.json_doc.specs.declared.doc.Doc.{Doc}
use Rattle.json_doc.specs.declared.read_fault.ReadFault.{ReadFault}
use Rattle.json_doc.specs.declared.read_fault.ReadFault.TheVariants.{Syntax, TooDeep, NumberTooWide, OutOfMemory}
use Rattle.json_doc.specs.Faults.{HasFault as HasJsonFault}
use Rattle.json_doc.specs.Grammar.{Reads}
use Rattle.service_model.specs.declared.shape.Kind.{Kind}
use Rattle.service_model.specs.declared.shape.Kind.TheVariants as kind
use Rattle.service_model.specs.declared.shape.Shape.{Shape}
use Rattle.service_model.specs.declared.shape.ShapeId.{ShapeId}
use Rattle.shorthand.specs.declared.short.Short.{Short}
use Rattle.shorthand.specs.Faults.{HasFault}
use Rattle.shorthand.specs.Grammar.{begins_with, IsShorthand}
use Rattle.texts.specs.Blanks.{without_first_blanks}
use Rattle.typed_value.specs.declared.typed.Typed.{Typed}
use Rattle.typed_value.specs.declared.typed.Typed.TheVariants as typed
use Rattle.shape_values.specs.declared.fault.ValueKind.TheVariants.{Json, Shorthand, NeedsJson}
use Rattle.shape_values.specs.declared.place.Place.{Place}
use Rattle.shape_values.specs.Faults.{Outcome, here, under, to_item}
use Rattle.shape_values.specs.Instants.{Instants}
use Rattle.shape_values.specs.JsonValues.{document_value}
use Rattle.shape_values.specs.Places.{of_shape, takes_json, holds_lists}
use Rattle.shape_values.specs.Scalars.{scalar_of}
use Rattle.shape_values.specs.ShortValues.{short_value}

-- goes on with a value that may come; a fault stays
abbrev pub Next : {A B : Type 0} → Outcome A → (A → Outcome B → Type 0) → Outcome B → Type 0
Next (Ok x) Rest r = Rest x r
Next (Err fault) Rest r = r ≡ Err fault

abbrev pub Then : {A B : Type 0} → (Outcome A → Type 0) → (A → Outcome B → Type 0) → Outcome B → Type 0
Then {A} First Rest r = (first : Outcome A) × First first × Next first Rest r

abbrev pub offset_of : ReadFault → ℕ
offset_of (Syntax at) = at
offset_of (TooDeep at) = at
offset_of (NumberTooWide at) = at
offset_of OutOfMemory = 0

-- the document of a JSON text, or the offset of its fault
abbrev pub IsRead : List ℕ → Result Doc ℕ → Type 0
IsRead text (Ok d) = Reads (encode_utf8_all text) d
IsRead text (Err at) = (f : ReadFault) × HasJsonFault (encode_utf8_all text) f × (at ≡ offset_of f)

abbrev pub or_json : Result Doc ℕ → Outcome Doc
or_json (Ok d) = Ok d
or_json (Err at) = Err (here (Json at))

abbrev pub IsDocument : List ℕ → Outcome Doc → Type 0
IsDocument text r = (read : Result Doc ℕ) × IsRead text read × (r ≡ or_json read)

-- a JSON text where a value stands
abbrev pub IsJsonValue : Instants → List Shape → Place → List ℕ → Outcome Typed → Type 0
IsJsonValue instants shapes place text = Then (IsDocument text) (λ d r. r ≡ document_value instants shapes place d)

-- any document, whatever the fault of another text
abbrev pub any_document : Result Doc ℕ → Outcome Typed
any_document (Ok d) = Ok (typed.Any d)
any_document (Err at) = Err (here NeedsJson)

abbrev pub IsAnyDocument : List ℕ → Outcome Typed → Type 0
IsAnyDocument text r = (read : Result Doc ℕ) × IsRead text read × (r ≡ any_document read)

-- the tree of a shorthand text, or the offset of its fault
abbrev pub IsTree : List ℕ → Outcome Short → Type 0
IsTree text (Ok tree) = IsShorthand text tree
IsTree text (Err fault) = (at : ℕ) × HasFault text at × (fault ≡ here (Shorthand at))

abbrev pub IsShortValue : Instants → List Shape → Place → List ℕ → Outcome Typed → Type 0
IsShortValue instants shapes place text = Then (IsTree text) (λ tree r. r ≡ short_value instants shapes place tree)

abbrev pub IsObjectValue : Instants → List Shape → Place → List ℕ → Outcome Typed → Type 0
IsObjectValue instants shapes place text r =
    MatchBool (begins_with 123 (without_first_blanks text)) (IsJsonValue instants shapes place text r) (IsShortValue instants shapes place text r)

-- a list that is an element of a list
abbrev pub IsKindValue : Instants → List Shape → Place → Kind → List ℕ → Outcome Typed → Type 0
IsKindValue instants shapes place kind.Structure text r = IsObjectValue instants shapes place text r
IsKindValue instants shapes place kind.Map text r = IsObjectValue instants shapes place text r
IsKindValue instants shapes place kind.List text r = r ≡ Err (here NeedsJson)
IsKindValue instants shapes place others text r = r ≡ scalar_of instants others text

abbrev pub IsValueAt : Instants → List Shape → Place → Option Shape → List ℕ → Outcome Typed → Type 0
IsValueAt instants shapes place None text r = r ≡ Ok (typed.Text text)
IsValueAt instants shapes place (Some shape) text r =
    MatchBool (takes_json place shape) (IsAnyDocument text r) (IsKindValue instants shapes place shape.kind text r)

-- one text where a value stands that is no list
abbrev pub IsTextValue : Instants → List Shape → Place → List ℕ → Outcome Typed → Type 0
IsTextValue instants shapes place text r = IsValueAt instants shapes place (slice_get shapes place.shape.0) text r

abbrev pub IsElement : Instants → List Shape → Option ShapeId → List ℕ → Outcome Typed → Type 0
IsElement instants shapes None text r = r ≡ Ok (typed.Text text)
IsElement instants shapes (Some id) text r = IsTextValue instants shapes (of_shape id) text r

-- what is said of a part, said of it as a part of the whole
abbrev pub Under : {A : Type 0} → List ℕ → (Outcome A → Type 0) → Outcome A → Type 0
Under {A} step IsPart r = (part : Outcome A) × IsPart part × (r ≡ under step part)

-- each text is an element, up to the first fault
abbrev pub AreElements : Instants → List Shape → Option ShapeId → ℕ → List (List ℕ) → Outcome (List Typed) → Type 0
AreElements instants shapes item n [] r = r ≡ Ok []
AreElements instants shapes item n (t ∷ ts) r =
    Then (Under (to_item n) (IsElement instants shapes item t)) (λ v. Then (AreElements instants shapes item (n + 1) ts) (λ vs whole. whole ≡ Ok (v ∷ vs))) r

-- texts where a list stands
abbrev pub IsListValue : Instants → List Shape → Shape → List (List ℕ) → Outcome Typed → Type 0
IsListValue instants shapes shape texts r =
    MatchBool (holds_lists shapes shape) (r ≡ Err (here NeedsJson)) (Then (AreElements instants shapes shape.item 0 texts) (λ vs whole. whole ≡ Ok (typed.Items vs)) r)

-- one text where a list stands
abbrev pub IsSoleValue : Instants → List Shape → Place → Shape → List ℕ → Outcome Typed → Type 0
IsSoleValue instants shapes place shape text r =
    MatchBool (begins_with 91 text) (IsJsonValue instants shapes place text r) (IsListValue instants shapes shape (text ∷ []) r)
