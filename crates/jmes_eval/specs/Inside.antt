-- Words of private contracts alone; no public contract cites them: documents that a query has come to, and
-- elements with their keys.
use Rattle.std.specs.Prelude.{Bool, List, [], ◌∷◌, map, Option, option_map}
use denote.Ref.{Bor}
use Rattle.json_doc.specs.declared.doc.Doc.{Doc}
use Rattle.jmes_eval.specs.declared.seen.Seen.{Seen}
use Rattle.jmes_eval.specs.declared.seen.Seen.TheVariants.{At, Made}
use Rattle.jmes_eval.specs.declared.sorting.Entry.{Entry}
use Rattle.jmes_eval.specs.Meaning.{fits}

abbrev pub seen_doc : Seen → Doc
seen_doc (At place) = place.now
seen_doc (Made doc) = doc

-- documents that are looked at
abbrev pub looked : List (Bor Doc) → List Doc
looked places = map (λ place. place.now) places

abbrev pub seen_all : List Seen → List Doc
seen_all all = map seen_doc all

-- the values of arguments; an expref has none
abbrev pub seen_values : List (Option Seen) → List (Option Doc)
seen_values values = map (option_map seen_doc) values

abbrev pub entry_of : Entry → Doc × Doc
entry_of entry = (seen_doc entry.key, entry.element.now)

abbrev pub entries_of : List Entry → List (Doc × Doc)
entries_of entries = map entry_of entries

-- the key fits those before it
abbrev pub fits_first : List (Doc × Doc) → Doc → Bool
fits_first [] k = fits k k
fits_first (p ∷ ps) k = fits p.0 k
