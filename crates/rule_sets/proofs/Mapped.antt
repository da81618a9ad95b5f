-- A loop that makes one value of each item.
use Rattle.std.proofs.Common.{◌≡◌, ℕ, ◌+◌, ◌<◌, List, [], ◌∷◌, ◌++◌, map, length, get_or, drop, sym, ap, ◌∙◌, append_assoc}
use Rattle.std.proofs.lemmas.List.{at_drop_more}

-- one more value
pub map-more : {X Y : Type 0} (f : X → Y) (xs : List X) (i : ℕ) (x : X) (made next : List Y) (y : Y) → i < length xs → x ≡ get_or xs i x
    → next ≡ made ++ y ∷ [] → y ≡ f x → made ++ map f (drop i xs) ≡ map f xs → next ++ map f (drop (i + 1) xs) ≡ map f xs
map-more f xs i x made next y within is pushed says before =
    ap (λ ys. ys ++ map f (drop (i + 1) xs)) pushed ∙ append_assoc made (y ∷ []) (map f (drop (i + 1) xs))
    ∙ ap (λ z. made ++ z ∷ map f (drop (i + 1) xs)) (says ∙ ap f is)
    ∙ ap (λ ys. made ++ ys) (sym (at_drop_more (map f) xs i x within)) ∙ before
