-- The documents of values and their texts, by their parts.
use Rattle.std.proofs.Common.{◌≡◌, ℕ, zero, suc, ◌<◌, ◌^◌, Bool, true, false, ◌&&◌, nat_lt, List, [], ◌∷◌, ◌++◌, map, Option, Some, None, refl, sym, ap, rules, ◌∙◌, arith}
use Rattle.std.specs.Prelude.{ℤ, codes, slice_get}
use Rattle.std.proofs.lemmas.Bool.{false≢true, lt-ltb}
use Rattle.json_doc.specs.Compact.{compact_of}
use Rattle.json_doc.specs.DecimalValue.{signed}
use Rattle.json_doc.specs.declared.decimal.Decimal.{Decimal}
use Rattle.json_doc.specs.declared.doc.Doc.{Doc}
use Rattle.json_doc.specs.declared.doc.Doc.TheVariants as doc
use Rattle.json_doc.specs.declared.layout.Layout.TheVariants.{Compact}
use Rattle.json_doc.proofs.Decimals.{Decimal-same}
use Rattle.json_doc.proofs.Layouts.{text_at-Null, text_at-Str, text_at-Items, text_at-Fields}
use Rattle.service_model.specs.declared.shape.Shape.{Shape}
use Rattle.service_model.specs.declared.shape.ShapeId.{ShapeId}
use Rattle.texts.specs.Joined.{joined}
use Rattle.texts.specs.declared.pairs.Pair.{Pair}
use Rattle.typed_value.specs.declared.typed.Typed.{Typed, the_lemmas as typed_lemmas}
use Rattle.typed_value.specs.declared.typed.Typed.TheVariants as value
use Rattle.typed_value.specs.declared.typed.Typed.TheOpen.{Typed-F}
use Rattle.typed_value.specs.Fits.{with_values}
use Rattle.value_texts.specs.declared.fields.Spot.{Spot}
use Rattle.value_texts.specs.declared.slot.Slot.{Slot}
use Rattle.value_texts.specs.Documents.{field, item_document, entry_field, fields_of, shape_document, document_of}
use Rattle.value_texts.specs.Inside.{field_text, fields_text, items_text, spot_field}
use Rattle.value_texts.specs.Quoted.{quoted}
use Rattle.value_texts.specs.WholeNumbers.{sized, whole_number, number_or_null, whole_document}

abbrev pub item_at : List Shape → Option ShapeId → Typed → Doc
item_at shapes item v = item_document item (document_of shapes v)

abbrev pub item_text : List Shape → Option ShapeId → Typed → List ℕ
item_text shapes item v = compact_of (item_at shapes item v)

abbrev pub entry_text : List Shape → Option ShapeId → Pair Typed → List ℕ
entry_text shapes item p = field_text (field p.key (item_at shapes item p.value))

abbrev pub spot_text : List Shape → List (Pair Typed) → Pair Spot → List ℕ
spot_text shapes fields p = field_text (spot_field shapes fields p)

pub twice : {A B C : Type 0} (g : B → C) (f : A → B) (xs : List A) → map g (map f xs) ≡ map (λ x. g (f x)) xs
twice g f [] = refl
twice g f (x ∷ xs) = ap (λ ys. g (f x) ∷ ys) (twice g f xs)

-- the entries of a map, each with its text
pub entries-all : (shapes : List Shape) (item : Option ShapeId) (ps : List (Pair Typed))
    → map field_text (map (entry_field item) (with_values (document_of shapes) ps)) ≡ map (entry_text shapes item) ps
entries-all shapes item [] = refl
entries-all shapes item (p ∷ ps) = ap (λ ts. entry_text shapes item p ∷ ts) (entries-all shapes item ps)

document-Items : (shapes : List Shape) (vs : List Typed) (slot : Slot)
    → document_of shapes (value.Items vs) slot ≡ shape_document shapes (slice_get shapes slot.shape.0) (Typed-F.Items (map (document_of shapes) vs)) slot
document-Items shapes vs slot = search (rules, typed_lemmas)

document-Fields : (shapes : List Shape) (ps : List (Pair Typed)) (slot : Slot)
    → document_of shapes (value.Fields ps) slot ≡ shape_document shapes (slice_get shapes slot.shape.0) (Typed-F.Fields (with_values (document_of shapes) ps)) slot
document-Fields shapes ps slot = search (rules, typed_lemmas)

pub compact-Null : compact_of doc.Null ≡ codes "null"
compact-Null = text_at-Null Compact 0

pub compact-Str : (text : List ℕ) → compact_of (doc.Str text) ≡ quoted text
compact-Str text = text_at-Str Compact 0 text

pub compact-Items : (ds : List Doc) → compact_of (doc.Items ds) ≡ 91 ∷ items_text (map compact_of ds) ++ 93 ∷ []
compact-Items ds = text_at-Items Compact 0 ds

pub compact-Fields : (ps : List (Pair Doc)) → compact_of (doc.Fields ps) ≡ 123 ∷ fields_text ps ++ 125 ∷ []
compact-Fields ps = text_at-Fields Compact 0 ps

module _ (shapes : List Shape) (slot : Slot) (shape : Shape) (is : Some shape ≡ slice_get shapes slot.shape.0) where
  pub value-Items : (vs : List Typed) → compact_of (document_of shapes (value.Items vs) slot) ≡ 91 ∷ items_text (map (item_text shapes shape.item) vs) ++ 93 ∷ []
  value-Items vs =
      ap compact_of (document-Items shapes vs slot ∙ ap (λ o. shape_document shapes o (Typed-F.Items (map (document_of shapes) vs)) slot) (sym is)
      ∙ ap doc.Items (twice (item_document shape.item) (document_of shapes) vs))
      ∙ compact-Items (map (item_at shapes shape.item) vs)
      ∙ ap (λ ts. 91 ∷ items_text ts ++ 93 ∷ []) (twice compact_of (item_at shapes shape.item) vs)

  pub value-Fields : (ps : List (Pair Typed))
      → compact_of (document_of shapes (value.Fields ps) slot) ≡ 123 ∷ fields_text (fields_of shape (with_values (document_of shapes) ps)) ++ 125 ∷ []
  value-Fields ps =
      ap compact_of (document-Fields shapes ps slot ∙ ap (λ o. shape_document shapes o (Typed-F.Fields (with_values (document_of shapes) ps)) slot) (sym is))
      ∙ compact-Fields (fields_of shape (with_values (document_of shapes) ps))

-- a decimal without places is that of its value

abbrev IsOf : Bool → ℕ → Option Decimal → Type 0
IsOf is_negative size None = ⊥
IsOf is_negative size (Some d) = (d.is_negative ≡ is_negative) × (d.magnitude ≡ size) × (d.scale ≡ 0)

sized-is : (is_negative : Bool) (size : ℕ) (test : Bool) (e : nat_lt size (10 ^ 36) ≡ test) → test ≡ true → (is_negative && nat_lt 0 size) ≡ is_negative
    → IsOf is_negative size (sized is_negative size test e)
sized-is is_negative size false e is sign = absurd (false≢true is)
sized-is is_negative size true e is sign = (sign, refl, refl)

whole-is : (is_negative : Bool) (size : ℕ) → (is_negative ≡ true → 0 < size) → size < 10 ^ 36 → IsOf is_negative size (whole_number (signed is_negative size))
whole-is false size some small = sized-is false size (nat_lt size (10 ^ 36)) refl (lt-ltb size (10 ^ 36) small) refl
whole-is true zero some small = absurd (omega (arith, some refl))
whole-is true (suc n) some small = sized-is true (suc n) (nat_lt (suc n) (10 ^ 36)) refl (lt-ltb (suc n) (10 ^ 36) small) (lt-ltb 0 (suc n) (omega arith))

number-is : (n : Option Decimal) (d : Decimal) → IsOf d.is_negative d.magnitude n → d.scale ≡ 0 → number_or_null n ≡ doc.Number d
number-is None d is whole = absurd is
number-is (Some n) d is whole = ap doc.Number (Decimal-same n d is.0 is.1 (is.2 ∙ sym whole))

pub whole-document : (d : Decimal) → d.scale ≡ 0 → whole_document (signed d.is_negative d.magnitude) ≡ doc.Number d
whole-document d whole = number-is (whole_number (signed d.is_negative d.magnitude)) d (whole-is d.is_negative d.magnitude d.one_zero d.small) whole
