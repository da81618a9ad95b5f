-- Keys in the order of texts.
use Rattle.std.specs.Prelude.{◌≡◌, ℕ, Bool, List, [], ◌∷◌}
use Rattle.std.specs.List.{AllByRecursion, list_any}
use Rattle.std.specs.Ordering.{is_eq}
use Rattle.std.specs.declared.cmp.Ordering.TheVariants.{Less}
use Rattle.texts.specs.Order.{text_cmp}

-- each key comes before all behind it
abbrev pub IsAscending : List (List ℕ) → Type 0
IsAscending [] = Unit {0}
IsAscending (k ∷ ks) = AllByRecursion (λ j. text_cmp k j ≡ Less) ks × IsAscending ks

-- the key is among them
abbrev pub has_key : List ℕ → List (List ℕ) → Bool
has_key k ks = list_any (λ j. is_eq (text_cmp k j)) ks
