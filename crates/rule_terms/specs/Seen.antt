-- What stands at the keys of a document, whatever it is.
use Rattle.std.specs.Prelude.{ℕ, List, [], Option, None, Some, option_and_then}
use Rattle.json_doc.specs.declared.doc.Doc.{Doc}
use Rattle.json_doc.specs.declared.doc.Doc.TheOpen.{Doc-F}
use Rattle.json_doc.specs.declared.doc.Doc.TheViews.{out-Doc}
use Rattle.texts.specs.declared.pairs.Pair.{Pair}
use Rattle.texts.specs.Keys.{keys}
use Rattle.rule_terms.specs.Attributes.{member_of}

abbrev pub text_kind : Doc-F Doc → Option (List ℕ)
text_kind (Doc-F.Str t) = Some t
text_kind others = None

-- the text of a document, if it is one
abbrev pub text_of : Doc → Option (List ℕ)
text_of doc = text_kind (out-Doc doc)

abbrev pub text_in : Option Doc → Option (List ℕ)
text_in doc = option_and_then text_of doc

abbrev pub or_empty : {A : Type 0} → Option (List A) → List A
or_empty None = []
or_empty (Some xs) = xs

abbrev pub text_or_empty : Doc → List ℕ
text_or_empty doc = or_empty (text_of doc)

-- the text at a key, else the empty one
abbrev pub text_at : List ℕ → Doc → List ℕ
text_at key doc = or_empty (text_in (member_of key doc))

abbrev pub items_kind : Doc-F Doc → Option (List Doc)
items_kind (Doc-F.Items ds) = Some ds
items_kind others = None

abbrev pub items_of : Doc → Option (List Doc)
items_of doc = items_kind (out-Doc doc)

-- the items of the list at a key, else none
abbrev pub items_at : List ℕ → Doc → List Doc
items_at key doc = or_empty (option_and_then items_of (member_of key doc))

abbrev pub fields_kind : Doc-F Doc → Option (List (Pair Doc))
fields_kind (Doc-F.Fields ps) = Some ps
fields_kind others = None

abbrev pub fields_of : Doc → Option (List (Pair Doc))
fields_of doc = fields_kind (out-Doc doc)

-- the pairs of the object at a key, else none
abbrev pub fields_at : List ℕ → Doc → List (Pair Doc)
fields_at key doc = or_empty (option_and_then fields_of (member_of key doc))

-- the keys of the object at a key, else none
abbrev pub keys_at : List ℕ → Doc → List (List ℕ)
keys_at key doc = keys (fields_at key doc)
