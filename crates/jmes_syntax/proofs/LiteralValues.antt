-- The values of texts between quotes.
use Rattle.std.proofs.Common.{◌≡◌, ℕ, List, Option, Some, None, subst}
use Rattle.std.specs.Prelude.{IfSome, IfNone}
use Rattle.json_doc.specs.declared.doc.Doc as doc
use Rattle.json_doc.specs.declared.doc.Doc.{Doc}
use Rattle.json_doc.specs.Grammar.{Reads}
use Rattle.json_doc.proofs.Complete.{text_complete}
use Rattle.json_doc.proofs.Once.{text_once}
use Rattle.jmes_syntax.specs.Literals.{in_quotes, DocumentOf, StringOf, string, no_string}

pub one_document : (bs : List ℕ) (d e : Doc) → Reads bs d → Reads bs e → d ≡ e
one_document bs d e r s = let same = text_once bs _ _ (text_complete bs d r) (text_complete bs e s) in cc

pub is_document : {bs : List ℕ} {d : Doc} → DocumentOf bs (Some d) → Reads bs d
is_document (DocumentOf.document r) = r

pub none_document : {bs : List ℕ} → DocumentOf bs None → (d : Doc) → Reads bs d → ⊥
none_document (DocumentOf.no_document none) = none

-- the document between quotes, as a text or as none
pub StringOf-from : (bs : List ℕ) (d : Doc) (o : Option (List ℕ)) → Reads (in_quotes bs) d → IfSome o (λ t. d ≡ doc.Str t) → IfNone o ((t : List ℕ) → d ≡ doc.Str t → ⊥) → StringOf bs o
StringOf-from bs d (Some t) reads is none = string (subst (Reads (in_quotes bs)) is reads)
StringOf-from bs d None reads is none = no_string (λ t other. none t (one_document (in_quotes bs) d (doc.Str t) reads other))
