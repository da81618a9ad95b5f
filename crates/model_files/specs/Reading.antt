-- Parts of a document by their keys and kinds, or the fault that stands for them.
use Rattle.std.specs.Prelude.{ℕ, Bool, false, List, [], Option, None, Some, Result, Ok, Err}
use Rattle.json_doc.specs.declared.doc.Doc.{Doc}
use Rattle.json_doc.specs.declared.doc.Doc.TheOpen.{Doc-F}
use Rattle.json_doc.specs.declared.doc.Doc.TheViews.{out-Doc}
use Rattle.texts.specs.declared.pairs.Pair.{Pair}
use Rattle.texts.specs.Keys.{value_at}
use Rattle.model_files.specs.declared.fault.ModelFault.{ModelFault}
use Rattle.model_files.specs.declared.fault.ModelFault.TheVariants.{Missing, WrongKind}
use Rattle.model_files.specs.declared.fault.Place.TheVariants.{Whole, At}
use Rattle.model_files.specs.Faults.{inside, or_fault, each_from}
use Rattle.texts.specs.Calls.{◌>>=◌}

-- the members of an object
abbrev pub Fields : Type 0
Fields = List (Pair Doc)

abbrev pub fields_in : Doc-F Doc → Result Fields ModelFault
fields_in (Doc-F.Fields ps) = Ok ps
fields_in _ = Err (WrongKind Whole)

abbrev pub text_in : Doc-F Doc → Result (List ℕ) ModelFault
text_in (Doc-F.Str t) = Ok t
text_in _ = Err (WrongKind Whole)

abbrev pub flag_in : Doc-F Doc → Result Bool ModelFault
flag_in (Doc-F.Flag b) = Ok b
flag_in _ = Err (WrongKind Whole)

abbrev pub items_in : Doc-F Doc → Result (List Doc) ModelFault
items_in (Doc-F.Items ds) = Ok ds
items_in _ = Err (WrongKind Whole)

-- a document that is to be an object, a text, a flag, a list
unfoldable pub fields_of : Doc → Result Fields ModelFault
fields_of doc = fields_in (out-Doc doc)

unfoldable pub text_of : Doc → Result (List ℕ) ModelFault
text_of doc = text_in (out-Doc doc)

unfoldable pub flag_of : Doc → Result Bool ModelFault
flag_of doc = flag_in (out-Doc doc)

unfoldable pub items_of : Doc → Result (List Doc) ModelFault
items_of doc = items_in (out-Doc doc)

-- what stands at a key that must be there
unfoldable pub needed : List ℕ → Fields → Result Doc ModelFault
needed key fields = or_fault (Missing (At key)) (value_at key fields)

-- the object at a key
unfoldable pub object_at : List ℕ → Fields → Result Fields ModelFault
object_at key fields = do
  doc ← needed key fields
  inside key (fields_of doc)

-- the text at a key
unfoldable pub text_at : List ℕ → Fields → Result (List ℕ) ModelFault
text_at key fields = do
  doc ← needed key fields
  inside key (text_of doc)

-- the list at a key
unfoldable pub items_at : List ℕ → Fields → Result (List Doc) ModelFault
items_at key fields = do
  doc ← needed key fields
  inside key (items_of doc)

-- what is read from what stands at a key, where something stands there
abbrev pub maybe_at : {A : Type 0} → (Doc → Result A ModelFault) → List ℕ → Option Doc → Result (Option A) ModelFault
maybe_at f key None = Ok None
maybe_at f key (Some doc) = do
  x ← inside key (f doc)
  Ok (Some x)

-- the text at a key, where there is one
unfoldable pub maybe_text : List ℕ → Fields → Result (Option (List ℕ)) ModelFault
maybe_text key fields = maybe_at text_of key (value_at key fields)

-- the object at a key, where there is one
unfoldable pub maybe_object : List ℕ → Fields → Result (Option Fields) ModelFault
maybe_object key fields = maybe_at fields_of key (value_at key fields)

abbrev pub flag_or_false : List ℕ → Option Doc → Result Bool ModelFault
flag_or_false key None = Ok false
flag_or_false key (Some doc) = inside key (flag_of doc)

-- the flag at a key: false where nothing stands there
unfoldable pub flag_at : List ℕ → Fields → Result Bool ModelFault
flag_at key fields = flag_or_false key (value_at key fields)

-- a list of texts
unfoldable pub texts_of : Doc → Result (List (List ℕ)) ModelFault
texts_of doc = do
  items ← items_of doc
  each_from text_of 0 items

abbrev pub texts_or_none : List ℕ → Option Doc → Result (List (List ℕ)) ModelFault
texts_or_none key None = Ok []
texts_or_none key (Some doc) = inside key (texts_of doc)

-- the texts of the list at a key: none where nothing stands there
unfoldable pub texts_at : List ℕ → Fields → Result (List (List ℕ)) ModelFault
texts_at key fields = texts_or_none key (value_at key fields)

abbrev pub is_true_in : Doc-F Doc → Bool
is_true_in (Doc-F.Flag b) = b
is_true_in _ = false

abbrev pub is_true_maybe : Option Doc → Bool
is_true_maybe None = false
is_true_maybe (Some doc) = is_true_in (out-Doc doc)

-- true stands at a key; anything else and nothing is false
unfoldable pub is_true_at : List ℕ → Fields → Bool
is_true_at key fields = is_true_maybe (value_at key fields)

-- the texts of the list at a key, where something stands there
unfoldable pub maybe_texts : List ℕ → Fields → Result (Option (List (List ℕ))) ModelFault
maybe_texts key fields = maybe_at texts_of key (value_at key fields)
