-- The names that are told of a fault.
use Rattle.std.proofs.Common.{◌≡◌, ℕ, ◌≤◌, List, ◌∷◌, ◌++◌, length, map, take, sym, ap, ◌∙◌}
use Rattle.std.proofs.lemmas.List.{take_all}
use Rattle.std.proofs.lemmas.List.Folds.{flat_map-map}
use Rattle.std.specs.List.{flat_map}
use Rattle.std.specs.Prelude.{codes}
use Rattle.texts.specs.Joined.{joined}
use Rattle.arg_table.specs.FaultText.{dashed}

-- the first name and then the others are all names
pub all_told : (names others : List (List ℕ)) (first : List ℕ) (i : ℕ) → names ≡ first ∷ others → length others ≤ i
    → dashed first ++ flat_map (λ u. codes ", " ++ dashed u) (take i others) ≡ joined (codes ", ") (map dashed names)
all_told names others first i are past =
    ap (λ us. dashed first ++ flat_map (λ u. codes ", " ++ dashed u) us) (take_all i others past)
    ∙ ap (λ bs. dashed first ++ bs) (sym (flat_map-map (λ u. codes ", " ++ u) dashed others))
    ∙ ap (λ ns. joined (codes ", ") (map dashed ns)) (sym are)
