-- Elements with their keys, behind those that have theirs.
use Rattle.std.proofs.Common.{List, [], ◌∷◌, ◌++◌, Ok}
use Rattle.json_doc.specs.declared.doc.Doc.{Doc}
use Rattle.jmes_eval.specs.Answers.{Answer}
use Rattle.texts.specs.Calls.{◌>>=◌}
use Rattle.jmes_eval.specs.Meaning.{Meaning, keyed, keyed_like}

-- the keys so far, and those of the rest like the first of them
abbrev pub keyed_after : List (Doc × Doc) → Meaning → List Doc → Answer (List (Doc × Doc))
keyed_after [] f ds = keyed f ds
keyed_after (p ∷ ps) f ds = keyed_like p.0 f ds >>= (λ rest. Ok ((p ∷ ps) ++ rest))
