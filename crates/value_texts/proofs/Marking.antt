-- Texts with marks between them, put one after another.
use Rattle.std.proofs.Common.{◌≡◌, ℕ, ◌+◌, ◌<◌, ◌≤◌, List, [], ◌∷◌, ◌++◌, length, get_or, drop, map, refl, sym, ap, ◌∙◌, append-nil, append_assoc}
use Rattle.std.specs.Prelude.{flat_map}
use Rattle.std.proofs.lemmas.List.{at_drop_more, at_drop_all}
use Rattle.texts.specs.Joined.{joined}

-- the texts, the first behind one mark and the others behind another
abbrev pub behind : List ℕ → List ℕ → List (List ℕ) → List ℕ
behind first others [] = []
behind first others (text ∷ texts) = first ++ text ++ behind others others texts

each_behind : (mark : List ℕ) (texts : List (List ℕ)) → behind mark mark texts ≡ flat_map (λ text. mark ++ text) texts
each_behind mark [] = refl
each_behind mark (text ∷ texts) = ap (λ rest. mark ++ text ++ rest) (each_behind mark texts)

-- where no mark stands before the first they are joined
pub behind_nothing : (mark : List ℕ) (texts : List (List ℕ)) → behind [] mark texts ≡ joined mark texts
behind_nothing mark [] = refl
behind_nothing mark (text ∷ texts) = ap (λ rest. text ++ rest) (each_behind mark texts)

-- one more text behind its mark
one_more : (out before mark text : List ℕ) (texts : List (List ℕ))
    → ((out ++ before) ++ text) ++ behind mark mark texts ≡ out ++ behind before mark (text ∷ texts)
one_more out before mark text texts =
    ap (λ s. s ++ behind mark mark texts) (append_assoc out before text) ∙ append_assoc out (before ++ text) (behind mark mark texts)

-- the text of the item at a place, behind its mark
pub next_text : {A : Type 0} (f : A → List ℕ) (xs : List A) (i : ℕ) (x : A) → i < length xs → x ≡ get_or xs i x
    → (out before mark made : List ℕ) → made ≡ (out ++ before) ++ f x
    → made ++ behind mark mark (map f (drop (i + 1) xs)) ≡ out ++ behind before mark (map f (drop i xs))
next_text f xs i x within at out before mark made is =
    let rest = map f (drop (i + 1) xs) in
    let here = at_drop_more (map f) xs i x within ∙ ap (λ y. map f (y ∷ drop (i + 1) xs)) (sym at) in
    ap (λ s. s ++ behind mark mark rest) is ∙ one_more out before mark (f x) rest ∙ ap (λ ts. out ++ behind before mark ts) (sym here)

-- no text is left
pub all_put : {A : Type 0} (f : A → List ℕ) (xs : List A) (i : ℕ) (out before mark made : List ℕ) → length xs ≤ i
    → out ++ behind before mark (map f (drop i xs)) ≡ made → out ≡ made
all_put f xs i out before mark made past due =
    sym (append-nil out) ∙ sym (at_drop_all (λ ys. out ++ behind before mark (map f ys)) xs i past) ∙ due

-- two parts one behind another
pub two : (out a b p q : List ℕ) → p ≡ out ++ a → q ≡ p ++ b → q ≡ out ++ (a ++ b)
two out a b p q first second = second ∙ ap (λ s. s ++ b) first ∙ append_assoc out a b

-- three parts one behind another
pub three : (out a b c p q r : List ℕ) → p ≡ out ++ a → q ≡ p ++ b → r ≡ q ++ c → r ≡ out ++ (a ++ b ++ c)
three out a b c p q r first second third =
    third ∙ ap (λ s. s ++ c) (second ∙ ap (λ s. s ++ b) first ∙ append_assoc out a b) ∙ append_assoc out (a ++ b) c
