use Rattle.std.proofs.Common.{◌≡◌, ◌++◌, ◌∷◌, [], length}
use Rattle.std.specs.List.{flat_map}
use Rattle.std.specs.Str.{chars, IsUtf8}
use Rattle.json_doc.specs.Escapes.{escaped}
use Rattle.json_doc.proofs.quoted.push_quoted.Given as goal

abbrev pub invariant-runs : goal.invariant-runs
invariant-runs l =
    IsUtf8 l.rest
    × (l.out ++ flat_map (escaped l.layout) (chars l.rest) ≡ (l.fn.out ++ 34 ∷ []) ++ flat_map (escaped l.layout) (chars l.fn.text))

abbrev pub decreases-runs : goal.decreases-runs
decreases-runs l = length l.rest
