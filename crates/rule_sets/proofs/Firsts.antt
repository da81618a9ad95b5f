-- The first fault, where those before it are fine.
use Rattle.std.proofs.Common.{◌≡◌, [], ◌∷◌, Ok, Err, refl, ap, ◌∙◌}
use Rattle.rule_sets.specs.BadPlaces.{Judged, fine, first_bad, first_of}

first_last : (last : Judged) → first_of last fine ≡ last
first_last (Ok x) = refl
first_last (Err fault) = refl

-- behind two that are fine only the last is left
pub behind_two : (a b last : Judged) → a ≡ fine → b ≡ fine → first_bad (a ∷ b ∷ last ∷ []) ≡ last
behind_two a b last good well =
    ap (λ judged. first_of judged (first_of b (first_of last fine))) good ∙ ap (λ judged. first_of judged (first_of last fine)) well ∙ first_last last
