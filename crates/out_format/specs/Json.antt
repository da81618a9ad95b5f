-- A document as indented JSON.
use Rattle.std.specs.Prelude.{ℕ, Bool, true, false, if◌then◌else◌, List, [], ◌∷◌, ◌++◌}
use Rattle.json_doc.specs.declared.doc.Doc.{Doc, out-Doc}
use Rattle.json_doc.specs.declared.doc.Doc.TheOpen.{Doc-F}
use Rattle.json_doc.specs.Indented.{indented_of}

abbrev pub is_empty_object : Doc-F Doc → Bool
is_empty_object (Doc-F.Fields []) = true
is_empty_object others = false

-- its text and a line end; an empty object prints nothing
abbrev pub json_of : Doc → List ℕ
json_of doc = if is_empty_object (out-Doc doc) then [] else indented_of doc ++ 10 ∷ []
