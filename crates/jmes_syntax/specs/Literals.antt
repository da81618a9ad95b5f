-- The values of quoted names, literals and raw texts (JMESPath specification, "Literal Expressions",
-- "Raw String Literals").
use Rattle.std.specs.Prelude.{ℕ, List, [], ◌∷◌, ◌++◌, Option, None, Some}
use Rattle.std.specs.Str.{chars, IsUtf8}
use Rattle.json_doc.specs.declared.doc.Doc as doc
use Rattle.json_doc.specs.declared.doc.Doc.{Doc}
use Rattle.json_doc.specs.Grammar.{Reads}
use Rattle.json_doc.specs.JsonTexts.{IsJsonText}
use Rattle.json_doc.specs.Scan.{skipped}
use Rattle.jmes_syntax.specs.declared.delimited.Quote.{Quote}
use Rattle.jmes_syntax.specs.declared.delimited.Quote.TheVariants as quote
use Rattle.jmes_syntax.specs.declared.token.Token.{Token}
use Rattle.jmes_syntax.specs.declared.token.Token.TheVariants as token

abbrev pub in_quotes : List ℕ → List ℕ
in_quotes bs = 0x22 ∷ bs ++ 0x22 ∷ []

-- the JSON string with this inside, where it is one
pub data StringOf : List ℕ → Option (List ℕ) → Type 0 where
  string : {bs t : List ℕ} → Reads (in_quotes bs) (doc.Str t) → StringOf bs (Some t)
  no_string : {bs : List ℕ} → ((t : List ℕ) → Reads (in_quotes bs) (doc.Str t) → ⊥) → StringOf bs None

abbrev pub mapped : {A B : Type 0} → (A → B) → Option A → Option B
mapped f None = None
mapped f (Some x) = Some (f x)

-- the document of these bytes, where they are one
pub data DocumentOf : List ℕ → Option Doc → Type 0 where
  document : {bs : List ℕ} {d : Doc} → Reads bs d → DocumentOf bs (Some d)
  no_document : {bs : List ℕ} → ((d : Doc) → Reads bs d → ⊥) → DocumentOf bs None

-- The text of a literal that is no document: one that isn't JSON is a JSON string without its quotes;
-- JSON that is too deep, or has a number that is too wide, is none.
pub data BareOf : List ℕ → Option (List ℕ) → Type 0 where
  unquoted : {bs : List ℕ} {o : Option (List ℕ)} → (IsJsonText bs → ⊥) → StringOf (skipped bs) o → BareOf bs o
  beyond_limits : {bs : List ℕ} → IsJsonText bs → BareOf bs None

-- the document of a literal
pub data LiteralOf : List ℕ → Option Doc → Type 0 where
  json : {bs : List ℕ} {d : Doc} → Reads bs d → LiteralOf bs (Some d)
  bare : {bs : List ℕ} {o : Option (List ℕ)} → ((d : Doc) → Reads bs d → ⊥) → BareOf bs o → LiteralOf bs (mapped doc.Str o)

-- the text in UTF-8
pub data TextOf : List ℕ → Option (List ℕ) → Type 0 where
  text : {bs : List ℕ} → IsUtf8 bs → TextOf bs (Some (chars bs))
  no_text : {bs : List ℕ} → (IsUtf8 bs → ⊥) → TextOf bs None

-- the token of what stands between these quotes
pub data ValueOf : Quote → List ℕ → Option Token → Type 0 where
  name : {bs : List ℕ} {o : Option (List ℕ)} → StringOf bs o → ValueOf quote.Name bs (mapped token.Quoted o)
  literal : {bs : List ℕ} {o : Option Doc} → LiteralOf bs o → ValueOf quote.Literal bs (mapped token.Literal o)
  raw : {bs : List ℕ} {o : Option (List ℕ)} → TextOf bs o → ValueOf quote.Raw bs (mapped (λ t. token.Literal (doc.Str t)) o)
