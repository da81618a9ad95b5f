-- Functions of any number of values, from the left. An expref is none.
use Rattle.std.specs.Prelude.{if◌then◌else◌, List, [], ◌∷◌, Option, None, Some, Ok}
use Rattle.json_doc.specs.declared.doc.Doc as doc
use Rattle.json_doc.specs.declared.doc.Doc.{Doc}
use Rattle.texts.specs.declared.pairs.Pair.{Pair}
use Rattle.json_doc.specs.Grammar.{put_all}
use Rattle.jmes_eval.specs.Answers.{Answer, due}
use Rattle.texts.specs.Calls.{◌>>=◌}
use Rattle.jmes_eval.specs.Kinds.{fields_of, is_null}

-- the first value that isn't null
abbrev pub first_value : List (Option Doc) → Doc
first_value [] = doc.Null
first_value (None ∷ xs) = first_value xs
first_value (Some d ∷ xs) = if is_null d then first_value xs else d

-- the pairs so far, and those of the values put one after another
abbrev pub merged_after : List (Pair Doc) → List (Option Doc) → Answer Doc
merged_after made [] = Ok (doc.Fields made)
merged_after made (None ∷ xs) = merged_after made xs
merged_after made (Some d ∷ xs) = due (fields_of d) >>= (λ ps. merged_after (put_all made ps) xs)
