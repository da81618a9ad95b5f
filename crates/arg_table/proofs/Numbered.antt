-- Items and their places, one after another.
use Rattle.std.proofs.Common.{◌≡◌, ℕ, ◌+◌, ◌<◌, List, [], ◌∷◌, ◌++◌, length, get_or, take, map, sym, ap, ◌∙◌, arith}
use Rattle.std.specs.List.{enumerate_from}
use Rattle.std.proofs.lemmas.List.{take_more, length-take, map-append}

enumerate_from-push : {X : Type 0} (n : ℕ) (xs : List X) (x : X) → enumerate_from n (xs ++ x ∷ []) ≡ enumerate_from n xs ++ (n + length xs, x) ∷ []
enumerate_from-push n [] x = ap (λ k. (k, x) ∷ []) (omega arith)
enumerate_from-push n (y ∷ xs) x =
    ap (λ es. (n, y) ∷ es) (enumerate_from-push (n + 1) xs x ∙ ap (λ k. enumerate_from (n + 1) xs ++ (k, x) ∷ []) (omega arith))

-- one item more
pub numbered_more : {X Y : Type 0} (f : ℕ × X → Y) (xs : List X) (i : ℕ) (x : X) (old new : List Y) → i < length xs → x ≡ get_or xs i x
    → old ≡ map f (enumerate_from 0 (take i xs)) → new ≡ old ++ f (i, x) ∷ [] → new ≡ map f (enumerate_from 0 (take (i + 1) xs))
numbered_more f xs i x old new within is so_far more =
    let place : length (take i xs) ≡ i = omega (arith, length-take i xs) in
    more ∙ ap (λ ys. ys ++ f (i, x) ∷ []) so_far ∙ sym (map-append f (enumerate_from 0 (take i xs)) ((i, x) ∷ []))
    ∙ ap (λ k. map f (enumerate_from 0 (take i xs) ++ (k, x) ∷ [])) (omega arith) ∙ ap (map f) (sym (enumerate_from-push 0 (take i xs) x))
    ∙ ap (λ y. map f (enumerate_from 0 (take i xs ++ y ∷ []))) is ∙ ap (λ ys. map f (enumerate_from 0 ys)) (sym (take_more xs i x within))
