-- What stands in a document's outermost layer, and the scalars right below it.
use Rattle.std.specs.Prelude.{ℕ, Bool, true, false, if◌then◌else◌, List, [], codes, Option, None, Some, is_some}
use Rattle.json_doc.specs.declared.doc.Doc.{Doc, out-Doc, map-Doc}
use Rattle.json_doc.specs.declared.doc.Doc.TheOpen.{Doc-F}
use Rattle.texts.specs.declared.pairs.Pair.{Pair}
use Rattle.json_doc.specs.DecimalText.{decimal_text}

-- a scalar's text; a list and an object have none
abbrev pub scalar_text : {X : Type 0} → Doc-F X → Option (List ℕ)
scalar_text Doc-F.Null = Some (codes "None")
scalar_text (Doc-F.Flag flag) = Some (if flag then codes "True" else codes "False")
scalar_text (Doc-F.Number n) = Some (decimal_text n)
scalar_text (Doc-F.Str t) = Some t
scalar_text (Doc-F.Items xs) = None
scalar_text (Doc-F.Fields ps) = None

abbrev pub is_scalar : {X : Type 0} → Doc-F X → Bool
is_scalar x = is_some (scalar_text x)

abbrev pub is_object : {X : Type 0} → Doc-F X → Bool
is_object (Doc-F.Fields ps) = true
is_object others = false

abbrev pub items_in : {X : Type 0} → Doc-F X → List X
items_in (Doc-F.Items xs) = xs
items_in others = []

abbrev pub fields_in : {X : Type 0} → Doc-F X → List (Pair X)
fields_in (Doc-F.Fields ps) = ps
fields_in others = []

-- one layer, with the text of each part that is a scalar
abbrev pub Layer : Type 0
Layer = Doc-F (Option (List ℕ))

abbrev pub scalar_of : Doc → Option (List ℕ)
scalar_of doc = scalar_text (out-Doc doc)

abbrev pub layer_of : Doc → Layer
layer_of doc = map-Doc Doc (Option (List ℕ)) scalar_of (out-Doc doc)
