-- The one key of entries, given what was found of them.
use Rattle.std.proofs.Common.{List, [], ◌∷◌, Option, None, Some, ℕ}
use Rattle.texts.specs.declared.pairs.Pair.{Pair}
use Rattle.resp_parser.specs.Kept.{only_key}

-- with a key that was found, there may be no other
abbrev pub with_only : {X : Type 0} → Option (List ℕ) → List (Pair X) → Option (List ℕ)
with_only None ps = only_key ps
with_only (Some key) [] = Some key
with_only (Some key) (p ∷ ps) = None
