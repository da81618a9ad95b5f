-- The rows of a service's paginators: botocore's `paginators-1.json`.
use Rattle.std.specs.Prelude.{◌≡◌, ℕ, ◌<◌, ◌==◌, List, [], ◌∷◌, if◌then◌else◌, length, Option, None, Some, Result, Ok, Err, bytes_eq, codes}
use Rattle.json_doc.specs.declared.doc.Doc.{Doc}
use Rattle.json_doc.specs.declared.doc.Doc.TheOpen.{Doc-F}
use Rattle.json_doc.specs.declared.doc.Doc.TheViews.{out-Doc}
use Rattle.texts.specs.Keys.{value_at}
use Rattle.model_files.specs.declared.fault.ModelFault.{ModelFault}
use Rattle.model_files.specs.declared.fault.ModelFault.TheVariants.{WrongKind}
use Rattle.model_files.specs.declared.fault.Place.TheVariants.{Whole, At}
use Rattle.model_files.specs.declared.paginators.PagerRow.{PagerRow}
use Rattle.model_files.specs.declared.paginators.NamedRow.{NamedRow}
use Rattle.model_files.specs.Faults.{inside, demand}
use Rattle.texts.specs.Calls.{◌>>=◌}
use Rattle.model_files.specs.Reading.{Fields, fields_of, object_at, needed, maybe_at, maybe_text, texts_of, texts_at}

-- a list with at least one text
abbrev pub some_of : List (List ℕ) → Result (List (List ℕ)) ModelFault
some_of [] = Err (WrongKind Whole)
some_of (text ∷ texts) = Ok (text ∷ texts)

abbrev pub queries_in : Doc-F Doc → Doc → Result (List (List ℕ)) ModelFault
queries_in (Doc-F.Str text) doc = Ok (text ∷ [])
queries_in _ doc = do
  texts ← texts_of doc
  some_of texts

-- a text, or a list of texts with at least one
unfoldable pub queries_of : Doc → Result (List (List ℕ)) ModelFault
queries_of doc = queries_in (out-Doc doc) doc

-- the text or texts at a key
unfoldable pub queries_at : List ℕ → Fields → Result (List (List ℕ)) ModelFault
queries_at key fields = do
  doc ← needed key fields
  inside key (queries_of doc)

-- the text or texts at a key, where something stands there
unfoldable pub maybe_queries : List ℕ → Fields → Result (Option (List (List ℕ))) ModelFault
maybe_queries key fields = maybe_at queries_of key (value_at key fields)

abbrev pub row_if : List (List ℕ) → List (List ℕ) → Option (List ℕ) → Option (List ℕ) → List (List ℕ) → Option (List (List ℕ)) → Option PagerRow
row_if inputs outputs limit more fixed None = None
row_if inputs outputs limit more fixed (Some results) =
    Some (record { inputs = inputs; outputs = outputs; results = results; limit = limit; more = more; fixed = fixed })

-- the row with these tokens
unfoldable pub row_with : List (List ℕ) → List (List ℕ) → Fields → Result (Option PagerRow) ModelFault
row_with inputs outputs fields = do
  results ← maybe_queries (codes "result_key") fields
  limit ← maybe_text (codes "limit_key") fields
  more ← maybe_text (codes "more_results") fields
  fixed ← texts_at (codes "non_aggregate_keys") fields
  Ok (row_if inputs outputs limit more fixed results)

-- a row, with as many outputs as inputs: one without results is none, but its other fields are judged
unfoldable pub row_of : Doc → Result (Option PagerRow) ModelFault
row_of doc = do
  fields ← fields_of doc
  inputs ← queries_at (codes "input_token") fields
  outputs ← queries_at (codes "output_token") fields
  demand (length inputs == length outputs) (WrongKind (At (codes "output_token"))) (row_with inputs outputs fields)

abbrev pub row_before : List ℕ → Option PagerRow → List NamedRow → List NamedRow
row_before operation None others = others
row_before operation (Some row) others = record { operation = operation; row = row } ∷ others

-- the rows with the names of their operations
abbrev pub rows_of : Fields → Result (List NamedRow) ModelFault
rows_of [] = Ok []
rows_of (p ∷ ps) = do
  row ← inside p.key (row_of p.value)
  others ← rows_of ps
  Ok (row_before p.key row others)

-- what the file says
unfoldable pub paginators_of : Doc → Result (List NamedRow) ModelFault
paginators_of doc = do
  fields ← fields_of doc
  pairs ← object_at (codes "pagination") fields
  inside (codes "pagination") (rows_of pairs)

-- a row has tokens, as many outputs as inputs, and results
pub record IsPagerRow (row : PagerRow) : Type 0 where
  pub inputs : 0 < length row.inputs
  pub outputs : length row.outputs ≡ length row.inputs
  pub results : 0 < length row.results

-- the row of an operation
abbrev pub row_named : List ℕ → List NamedRow → Option PagerRow
row_named operation [] = None
row_named operation (r ∷ rs) = if bytes_eq r.operation operation then Some r.row else row_named operation rs
