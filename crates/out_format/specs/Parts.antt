-- What the printing of a document needs of each value in it, folded from the inside out.
use Rattle.std.specs.Prelude.{ℕ, Bool, List, Option}
use Rattle.std.specs.List.{list_any}
use Rattle.json_doc.specs.declared.doc.Doc.{Doc, map-Doc}
use Rattle.json_doc.specs.declared.doc.Doc.TheOpen.{Doc-F}
use Rattle.json_doc.specs.declared.doc.Doc.TheFolds.{fold-Doc}
use Rattle.out_format.specs.Layers.{Layer, scalar_text, is_object}

-- its outermost layer; what is printed of it; what is printed of those of its members that are no scalars
pub record PartOf (A B : Type 0) : Type 0 where
  pub layer : Layer
  pub whole : A
  pub inner : B

-- one layer of parts, with the text of each that is a scalar
abbrev pub layer_step : {A B : Type 0} → Doc-F (PartOf A B) → Layer
layer_step {A} {B} x = map-Doc (PartOf A B) (Option (List ℕ)) (λ part. scalar_text part.layer) x

abbrev pub has_object : {A B : Type 0} → List (PartOf A B) → Bool
has_object parts = list_any (λ part. is_object part.layer) parts

abbrev pub part_step : {A B : Type 0} → (Doc-F (PartOf A B) → A) → (Doc-F (PartOf A B) → B) → Doc-F (PartOf A B) → PartOf A B
part_step whole inner x = record { layer = layer_step x; whole = whole x; inner = inner x }

-- a document as a part, given what is printed of one layer of parts
abbrev pub folded : {A B : Type 0} → (Doc-F (PartOf A B) → A) → (Doc-F (PartOf A B) → B) → Doc → PartOf A B
folded {A} {B} whole inner = fold-Doc (PartOf A B) (part_step whole inner)
