-- Texts with marks between them, put one after another.
use Rattle.std.proofs.Common.{◌≡◌, ℕ, List, [], ◌∷◌, ◌++◌, refl, ap, ◌∙◌, append_assoc}
use Rattle.std.specs.Prelude.{flat_map}
use Rattle.texts.specs.Joined.{joined}

-- the texts, the first behind one mark and the others behind another
abbrev pub behind : List ℕ → List ℕ → List (List ℕ) → List ℕ
behind first others [] = []
behind first others (text ∷ texts) = first ++ text ++ behind others others texts

each_behind : (mark : List ℕ) (texts : List (List ℕ)) → behind mark mark texts ≡ flat_map (λ text. mark ++ text) texts
each_behind mark [] = refl
each_behind mark (text ∷ texts) = ap (λ rest. mark ++ text ++ rest) (each_behind mark texts)

-- where no mark stands before the first they are joined
pub behind_nothing : (mark : List ℕ) (texts : List (List ℕ)) → behind [] mark texts ≡ joined mark texts
behind_nothing mark [] = refl
behind_nothing mark (text ∷ texts) = ap (λ rest. text ++ rest) (each_behind mark texts)

-- one more text behind its mark
pub one_more : (out before mark text : List ℕ) (texts : List (List ℕ))
    → ((out ++ before) ++ text) ++ behind mark mark texts ≡ out ++ behind before mark (text ∷ texts)
one_more out before mark text texts =
    ap (λ s. s ++ behind mark mark texts) (append_assoc out before text) ∙ append_assoc out (before ++ text) (behind mark mark texts)
