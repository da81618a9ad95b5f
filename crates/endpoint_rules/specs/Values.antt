-- The values of expressions.
use Rattle.std.specs.Prelude.{ℕ, List, [], ◌∷◌, ◌++◌, Option, None, Some, option_and_then, Result, Ok, Err}
use Rattle.json_doc.specs.declared.doc.Doc.{Doc}
use Rattle.json_doc.specs.declared.doc.Doc.TheVariants as doc
use Rattle.json_doc.specs.declared.doc.Doc.TheOpen.{Doc-F}
use Rattle.json_doc.specs.declared.doc.Doc.TheFolds.{fold-Doc}
use Rattle.texts.specs.declared.pairs.Pair.{Pair}
use Rattle.texts.specs.Calls.{◌>>=◌}
use Rattle.rule_terms.specs.declared.expression.Expression.{Expression}
use Rattle.rule_terms.specs.declared.expression.Expression.TheOpen.{Expression-F}
use Rattle.rule_terms.specs.declared.expression.Expression.TheFolds.{fold-Expression}
use Rattle.endpoint_rules.specs.declared.stop.Stop.{Stop}
use Rattle.endpoint_rules.specs.declared.stop.Stop.TheVariants.{Clash}
use Rattle.rule_terms.specs.declared.template.Piece.{Piece}
use Rattle.rule_terms.specs.declared.template.Piece.TheVariants.{Char, Named}
use Rattle.rule_terms.specs.Attributes.{attribute_of}
use Rattle.endpoint_rules.specs.Library.{applied}
use Rattle.endpoint_rules.specs.Scopes.{Env, found_named, value_named}
use Rattle.rule_terms.specs.Seen.{text_in}
use Rattle.rule_terms.specs.Templates.{pieces_of, name_in, path_in}

-- all of them, or the first that stops
abbrev pub all_of : {A : Type 0} → List (Result A Stop) → Result (List A) Stop
all_of [] = Ok []
all_of (r ∷ rs) = do
  x ← r
  xs ← all_of rs
  Ok (x ∷ xs)

-- null, and a value of another kind, are no text
abbrev pub or_clash : Option (List ℕ) → Result (List ℕ) Stop
or_clash None = Err Clash
or_clash (Some text) = Ok text

abbrev pub at_path : Option (List ℕ) → Doc → Option Doc
at_path None value = Some value
at_path (Some path) value = attribute_of path value

-- the text under a name, or at a path in what stands there
abbrev pub text_named : List ℕ → Option (List ℕ) → Env → Result (List ℕ) Stop
text_named name path env = or_clash (text_in (option_and_then (at_path path) (found_named name env)))

abbrev pub piece_text : Env → Piece → Result (List ℕ) Stop
piece_text env (Char c) = Ok (c ∷ [])
piece_text env (Named words) = text_named (name_in words) (path_in words) env

abbrev pub expanded_pieces : Env → List Piece → Result (List ℕ) Stop
expanded_pieces env [] = Ok []
expanded_pieces env (piece ∷ pieces) = do
  text ← piece_text env piece
  others ← expanded_pieces env pieces
  Ok (text ++ others)

-- the text of a template
abbrev pub expanded : Env → List ℕ → Result (List ℕ) Stop
expanded env template = expanded_pieces env (pieces_of template)

abbrev pub value_step : Env → Expression-F (Result Doc Stop) → Result Doc Stop
value_step env (Expression-F.Literal literal) = Ok literal
value_step env (Expression-F.Template template) = do
  text ← expanded env template
  Ok (doc.Str text)
value_step env (Expression-F.Reference name) = Ok (value_named name env)
value_step env (Expression-F.Call function arguments) = do
  values ← all_of arguments
  applied env.partitions function values

-- the value of an expression; its arguments are looked at from the left
abbrev pub value_of : Env → Expression → Result Doc Stop
value_of env = fold-Expression (Result Doc Stop) (value_step env)

abbrev pub all_fields : List (Pair (Result Doc Stop)) → Result (List (Pair Doc)) Stop
all_fields [] = Ok []
all_fields (p ∷ ps) = do
  value ← p.value
  others ← all_fields ps
  Ok (record { key = p.key; value = value } ∷ others)

abbrev pub expanded_step : Env → Doc-F (Result Doc Stop) → Result Doc Stop
expanded_step env Doc-F.Null = Ok doc.Null
expanded_step env (Doc-F.Flag b) = Ok (doc.Flag b)
expanded_step env (Doc-F.Number n) = Ok (doc.Number n)
expanded_step env (Doc-F.Str template) = do
  text ← expanded env template
  Ok (doc.Str text)
expanded_step env (Doc-F.Items rs) = do
  items ← all_of rs
  Ok (doc.Items items)
expanded_step env (Doc-F.Fields ps) = do
  fields ← all_fields ps
  Ok (doc.Fields fields)

-- a document with each of its texts expanded
abbrev pub expanded_in : Env → Doc → Result Doc Stop
expanded_in env = fold-Doc (Result Doc Stop) (expanded_step env)

abbrev pub expanded_field : Env → Pair Doc → Pair (Result Doc Stop)
expanded_field env field = record { key = field.key; value = expanded_in env field.value }
