-- A document by its kind (JMESPath specification, "Data Types").
use Rattle.std.specs.Prelude.{ℕ, Bool, true, false, List, [], ◌∷◌, codes, Option, None, Some}
use Rattle.json_doc.specs.declared.decimal.Decimal.{Decimal}
use Rattle.json_doc.specs.declared.doc.Doc.{Doc}
use Rattle.json_doc.specs.declared.doc.Doc.TheOpen.{Doc-F}
use Rattle.json_doc.specs.declared.doc.Doc.TheViews.{out-Doc}
use Rattle.texts.specs.declared.pairs.Pair.{Pair}

abbrev pub number_in : Doc-F Doc → Option Decimal
number_in (Doc-F.Number n) = Some n
number_in others = None

abbrev pub text_in : Doc-F Doc → Option (List ℕ)
text_in (Doc-F.Str t) = Some t
text_in others = None

abbrev pub items_in : Doc-F Doc → Option (List Doc)
items_in (Doc-F.Items ds) = Some ds
items_in others = None

abbrev pub fields_in : Doc-F Doc → Option (List (Pair Doc))
fields_in (Doc-F.Fields ps) = Some ps
fields_in others = None

-- the number, text, elements or pairs of a document of that kind
abbrev pub number_of : Doc → Option Decimal
number_of d = number_in (out-Doc d)

abbrev pub text_of : Doc → Option (List ℕ)
text_of d = text_in (out-Doc d)

abbrev pub items_of : Doc → Option (List Doc)
items_of d = items_in (out-Doc d)

abbrev pub fields_of : Doc → Option (List (Pair Doc))
fields_of d = fields_in (out-Doc d)

abbrev pub is_null_in : Doc-F Doc → Bool
is_null_in Doc-F.Null = true
is_null_in others = false

abbrev pub is_null : Doc → Bool
is_null d = is_null_in (out-Doc d)

abbrev pub has_some : {A : Type 0} → List A → Bool
has_some [] = false
has_some (x ∷ xs) = true

-- "Or Expressions": null, false, and empty texts, lists and objects count as false
abbrev pub truth_in : Doc-F Doc → Bool
truth_in Doc-F.Null = false
truth_in (Doc-F.Flag flag) = flag
truth_in (Doc-F.Number n) = true
truth_in (Doc-F.Str t) = has_some t
truth_in (Doc-F.Items ds) = has_some ds
truth_in (Doc-F.Fields ps) = has_some ps

abbrev pub truth_of : Doc → Bool
truth_of d = truth_in (out-Doc d)

-- "type": the name of the kind
abbrev pub type_in : Doc-F Doc → List ℕ
type_in Doc-F.Null = codes "null"
type_in (Doc-F.Flag flag) = codes "boolean"
type_in (Doc-F.Number n) = codes "number"
type_in (Doc-F.Str t) = codes "string"
type_in (Doc-F.Items ds) = codes "array"
type_in (Doc-F.Fields ps) = codes "object"

abbrev pub type_of : Doc → List ℕ
type_of d = type_in (out-Doc d)
