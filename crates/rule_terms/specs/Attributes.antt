-- `getAttr`: "Extracts a value at the given path from an object type or an array type." A path is names joined
-- by dots, each perhaps with an index in brackets behind it; the first may be an index alone.
use Rattle.std.specs.Prelude.{ℕ, ◌-◌, ◌^◌, ◌&&◌, Bool, true, false, min, if◌then◌else◌, List, [], ◌∷◌, slice_get, Option, None, Some, option_and_then, option_map, codes}
use Rattle.std.specs.Char.{is_ascii_digit}
use Rattle.std.specs.Str.Parse.{digits_value}
use Rattle.json_doc.specs.declared.doc.Doc.{Doc}
use Rattle.json_doc.specs.declared.doc.Doc.TheOpen.{Doc-F}
use Rattle.json_doc.specs.declared.doc.Doc.TheViews.{out-Doc}
use Rattle.texts.specs.Keys.{value_at}
use Rattle.rule_terms.specs.Characters.{is_empty, is_made_of}
use Rattle.texts.specs.Cut.{cut, is_among}
use Rattle.texts.specs.Marks.{around_first, without_last}

abbrev pub member_in : List ℕ → Doc-F Doc → Option Doc
member_in key (Doc-F.Fields ps) = value_at key ps
member_in key others = None

-- the value at a key; what is no object has none
abbrev pub member_of : List ℕ → Doc → Option Doc
member_of key value = member_in key (out-Doc value)

abbrev pub item_in : ℕ → Doc-F Doc → Option Doc
item_in index (Doc-F.Items ds) = slice_get ds index
item_in index others = None

-- the item at an index; what is no list has none
abbrev pub item_of : ℕ → Doc → Option Doc
item_of index value = item_in index (out-Doc value)

-- the number of digits, where a text is digits; one that no list reaches counts as the greatest
abbrev pub index_of : List ℕ → Option ℕ
index_of digits = if is_made_of is_ascii_digit digits then Some (min (digits_value 10 digits) (2 ^ 64 - 1)) else None

abbrev pub with_index : List ℕ × List ℕ → Option (List ℕ × ℕ)
with_index halves = option_map (λ index. (halves.0, index)) (option_and_then index_of (without_last 93 halves.1))

-- the name and the index of a part that ends with an index in brackets
abbrev pub indexed : List ℕ → Option (List ℕ × ℕ)
indexed part = option_and_then with_index (around_first 91 part)

-- what an index is looked up in: in the first part of a path perhaps the value itself
abbrev pub holder_of : Bool → List ℕ → Doc → Option Doc
holder_of is_first name value = if is_first && is_empty name then Some value else member_of name value

abbrev pub step_by : Bool → List ℕ → Option (List ℕ × ℕ) → Doc → Option Doc
step_by is_first part None value = member_of part value
step_by is_first part (Some found) value = option_and_then (item_of found.1) (holder_of is_first found.0 value)

-- what stands at one part of a path
abbrev pub step_of : Bool → List ℕ → Doc → Option Doc
step_of is_first part value = step_by is_first part (indexed part) value

-- what stands at the parts of a path, one after another
abbrev pub along : Bool → List (List ℕ) → Option Doc → Option Doc
along is_first [] value = value
along is_first (part ∷ parts) value = along false parts (option_and_then (step_of is_first part) value)

-- what stands at a path
abbrev pub attribute_of : List ℕ → Doc → Option Doc
attribute_of path value = along true (cut (is_among (codes ".")) path) (Some value)
