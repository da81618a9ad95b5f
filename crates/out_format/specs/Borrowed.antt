-- Members of objects that are borrowed, in a map by the bytes of their keys.
use Rattle.std.specs.Prelude.{◌≡◌, ℕ, List, map, Option, encode_utf8_all}
use Rattle.std.specs.Borrow.{Bor}
use Rattle.std.specs.List.{AllByRecursion}
use Rattle.json_doc.specs.declared.doc.Doc.{Doc}
use Rattle.texts.specs.declared.pairs.Pair.{Pair}
use Rattle.out_format.specs.Layers.{scalar_of}

abbrev pub Entry : Type 0
Entry = Bor (List ℕ) × Bor (Pair Doc)

-- each member stands at the bytes of its key
abbrev pub IsKeyed : Entry → Type 0
IsKeyed e = e.0.now ≡ encode_utf8_all e.1.now.key

abbrev pub AreKeyed : List Entry → Type 0
AreKeyed es = AllByRecursion IsKeyed es

abbrev pub members_of : List Entry → List (Pair Doc)
members_of es = map (λ e. e.1.now) es

-- a member with its value's text, where it is a scalar
abbrev pub with_text : Pair Doc → Pair (Option (List ℕ))
with_text p = record { key = p.key; value = scalar_of p.value }
