-- Words of private contracts alone: where the values of members stand among the fields of a value, the texts of
-- documents' parts, and which values can have times in them.
use Rattle.std.specs.Prelude.{ℕ, ◌<◌, Bool, true, false, List, [], ◌++◌, map, length, get_or, codes}
use Rattle.std.specs.List.{All}
use Rattle.json_doc.specs.Compact.{compact_of}
use Rattle.json_doc.specs.declared.doc.Doc.{Doc}
use Rattle.service_model.specs.declared.shape.Member.{Member}
use Rattle.service_model.specs.declared.shape.Shape.{Shape}
use Rattle.texts.specs.Joined.{joined}
use Rattle.texts.specs.declared.pairs.Pair.{Pair}
use Rattle.typed_value.specs.declared.typed.Typed.{Typed}
use Rattle.typed_value.specs.declared.typed.Typed.TheOpen.{Typed-F}
use Rattle.typed_value.specs.declared.typed.Typed.TheVariants.{Null}
use Rattle.value_texts.specs.declared.fields.Spot.{Spot}
use Rattle.value_texts.specs.Documents.{field, document_of}
use Rattle.value_texts.specs.Quoted.{quoted}
use Rattle.value_texts.specs.Slots.{slot_of_member}

-- where the value of a member stands
abbrev pub spot_of : ℕ → Member → Spot
spot_of at m = record { at = at; slot = slot_of_member m }

-- each place is that of a field
abbrev pub AreSpots : List (Pair Typed) → List (Pair Spot) → Type 0
AreSpots fields spots = All (λ p. p.value.at < length fields) spots

abbrev pub no_field : Pair Typed
no_field = record { key = []; value = Null }

-- the name that is sent, and the document of the value there
abbrev pub spot_field : List Shape → List (Pair Typed) → Pair Spot → Pair Doc
spot_field shapes fields p = field p.key (document_of shapes (get_or fields p.value.at no_field).value p.value.slot)

-- a key and what stands between it and its value
abbrev pub key_text : List ℕ → List ℕ
key_text key = quoted key ++ codes ": "

-- a key and the text of its value
abbrev pub field_text : Pair Doc → List ℕ
field_text p = key_text p.key ++ compact_of p.value

-- fields behind one another
abbrev pub fields_text : List (Pair Doc) → List ℕ
fields_text ps = joined (codes ", ") (map field_text ps)

-- the same of the texts of items
abbrev pub items_text : List (List ℕ) → List ℕ
items_text texts = joined (codes ", ") texts

-- a time can stand in it
abbrev pub can_hold_time : {X : Type 0} → Typed-F X → Bool
can_hold_time (Typed-F.Moment t) = true
can_hold_time (Typed-F.Items xs) = true
can_hold_time (Typed-F.Fields ps) = true
can_hold_time others = false
