-- The order of numbers and of texts, and lists in that order.
use Rattle.std.specs.Prelude.{ℕ, Bool, if◌then◌else◌, List, [], ◌∷◌, is_some, Option, None, Some}
use Rattle.std.specs.declared.cmp.Ordering.{Ordering}
use Rattle.std.specs.Option.{option_cmp}
use Rattle.std.specs.Ordering.{is_lt, ordering_then}
use Rattle.json_doc.specs.declared.doc.Doc as doc
use Rattle.json_doc.specs.declared.doc.Doc.{Doc}
use Rattle.json_doc.specs.DecimalValue.{value_cmp}
use Rattle.texts.specs.Order.{text_cmp}
use Rattle.jmes_eval.specs.Kinds.{number_of, text_of}

-- numbers by value, texts by code points. Where one is none, it comes first; no list is sorted so.
abbrev pub key_cmp : Doc → Doc → Ordering
key_cmp d e = ordering_then (option_cmp value_cmp (number_of d) (number_of e)) (option_cmp text_cmp (text_of d) (text_of e))

abbrev pub is_before : Doc → Doc → Bool
is_before d e = is_lt (key_cmp d e)

abbrev pub is_behind : Doc → Doc → Bool
is_behind d e = is_before e d

-- An element in its place: behind those that come before it, in front of those that tie with it.
abbrev pub placed : {A : Type 0} → (A → A → Bool) → A → List A → List A
placed before x [] = x ∷ []
placed before x (y ∷ ys) = if before y x then y ∷ placed before x ys else x ∷ y ∷ ys

-- the list in order; elements that tie stay as they stood
abbrev pub sorted : {A : Type 0} → (A → A → Bool) → List A → List A
sorted before [] = []
sorted before (x ∷ xs) = placed before x (sorted before xs)

abbrev pub first_of : {A : Type 0} → List A → Option A
first_of [] = None
first_of (x ∷ xs) = Some x

-- the one that comes first in the order of an element and the first of those behind it
abbrev pub picked : {A : Type 0} → (A → A → Bool) → A → Option A → A
picked before x None = x
picked before x (Some y) = if before y x then y else x

abbrev pub doc_or_null : Option Doc → Doc
doc_or_null None = doc.Null
doc_or_null (Some d) = d

-- where a kind stands among the others
abbrev pub rank_of : Doc → ℕ
rank_of d = if is_some (number_of d) then 2 else (if is_some (text_of d) then 1 else 0)
