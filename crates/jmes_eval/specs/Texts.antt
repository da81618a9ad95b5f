-- The functions on texts (JMESPath specification, "Built-in Functions"). A text is its characters.
use Rattle.std.specs.Prelude.{ℕ, Bool, false, ◌||◌, List, [], ◌∷◌, ◌++◌, map, nat_eq, codes, Option, None, Some, Ok}
use Rattle.std.specs.List.{starts_with, ends_with}
use Rattle.json_doc.specs.declared.doc.Doc as doc
use Rattle.json_doc.specs.declared.doc.Doc.{Doc}
use Rattle.json_doc.specs.declared.doc.Doc.TheOpen.{Doc-F}
use Rattle.json_doc.specs.declared.doc.Doc.TheViews.{out-Doc}
use Rattle.json_doc.specs.declared.doc.Doc.TheFolds.{fold-Doc}
use Rattle.texts.specs.declared.pairs.Pair.{Pair}
use Rattle.json_doc.specs.Compact.{compact_of}
use Rattle.texts.specs.Joined.{joined}
use Rattle.jmes_eval.specs.Answers.{Answer, due, all_of}
use Rattle.texts.specs.Calls.{◌>>=◌}
use Rattle.jmes_eval.specs.Kinds.{text_of, items_of}
use Rattle.jmes_eval.specs.Equality.{contains_item}

-- one text stands somewhere in another
abbrev pub is_part : List ℕ → List ℕ → Bool
is_part part [] = starts_with nat_eq [] part
is_part part (c ∷ cs) = starts_with nat_eq (c ∷ cs) part || is_part part cs

abbrev pub is_part_in : Option (List ℕ) → List ℕ → Bool
is_part_in None text = false
is_part_in (Some part) text = is_part part text

-- "contains": an element of the list equals it, or it is a part of the text
abbrev pub contains_in : Doc-F Doc → Doc → Option Bool
contains_in (Doc-F.Items ds) x = Some (contains_item ds x)
contains_in (Doc-F.Str t) x = Some (is_part_in (text_of x) t)
contains_in others x = None

abbrev pub contains_of : Doc → Doc → Answer Doc
contains_of d x = due (contains_in (out-Doc d) x) >>= (λ found. Ok (doc.Flag found))

-- "starts_with", "ends_with"
abbrev pub starts_with_of : Doc → Doc → Answer Doc
starts_with_of d x = due (text_of d) >>= (λ t. due (text_of x) >>= (λ front. Ok (doc.Flag (starts_with nat_eq t front))))

abbrev pub ends_with_of : Doc → Doc → Answer Doc
ends_with_of d x = due (text_of d) >>= (λ t. due (text_of x) >>= (λ back. Ok (doc.Flag (ends_with nat_eq t back))))

abbrev pub joined_in : List ℕ → List Doc → Answer Doc
joined_in glue ds = due (all_of text_of ds) >>= (λ ts. Ok (doc.Str (joined glue ts)))

-- "join": the texts with the first text between each two
abbrev pub join_of : Doc → Doc → Answer Doc
join_of x d = due (text_of x) >>= (λ glue. due (items_of d) >>= joined_in glue)

abbrev pub tight_field : Pair (List ℕ) → List ℕ
tight_field p = compact_of (doc.Str p.key) ++ codes ":" ++ p.value

-- the compact text without blanks behind `,` and `:`
abbrev pub tight_step : Doc-F (List ℕ) → List ℕ
tight_step Doc-F.Null = compact_of doc.Null
tight_step (Doc-F.Flag flag) = compact_of (doc.Flag flag)
tight_step (Doc-F.Number n) = compact_of (doc.Number n)
tight_step (Doc-F.Str t) = compact_of (doc.Str t)
tight_step (Doc-F.Items ts) = codes "[" ++ joined (codes ",") ts ++ codes "]"
tight_step (Doc-F.Fields ps) = codes "{" ++ joined (codes ",") (map tight_field ps) ++ codes "}"

abbrev pub tight_of : Doc → List ℕ
tight_of = fold-Doc (List ℕ) tight_step

abbrev pub text_or_tight : Option (List ℕ) → Doc → List ℕ
text_or_tight (Some t) d = t
text_or_tight None d = tight_of d

-- "to_string": a text as it is, any other value as its JSON text
abbrev pub to_string_of : Doc → Doc
to_string_of d = doc.Str (text_or_tight (text_of d) d)

-- a pair's text
abbrev pub tight_pair : Pair Doc → List ℕ
tight_pair p = compact_of (doc.Str p.key) ++ codes ":" ++ tight_of p.value
