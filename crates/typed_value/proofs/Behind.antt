-- Lists that are put behind others, one after another.
use Rattle.std.proofs.Common.{◌≡◌, ℕ, ◌+◌, ◌<◌, List, [], ◌∷◌, ◌++◌, length, get_or, take, sym, ap, ◌∙◌, append_assoc, append-nil}
use Rattle.std.specs.List.{flat_map}
use Rattle.std.proofs.lemmas.List.{flat_map_more, take_more}

-- one element more, with what it gives or with nothing
pub flat-next : {X A : Type 0} (f : X → List A) (xs : List X) (i : ℕ) (x : X) (old mid new : List A) → i < length xs → x ≡ get_or xs i x
    → mid ≡ old ++ flat_map f (take i xs) → new ≡ mid ++ f x → new ≡ old ++ flat_map f (take (i + 1) xs)
flat-next f xs i x old mid new within at so_far next =
    next ∙ ap (λ ys. ys ++ f x) so_far ∙ flat_map_more f old (take i xs) x
    ∙ ap (λ ys. old ++ flat_map f ys) (ap (λ y. take i xs ++ y ∷ []) at ∙ sym (take_more xs i x within))

pub flat-same : {X A : Type 0} (f : X → List A) (xs : List X) (i : ℕ) (x : X) (old mid : List A) → i < length xs → x ≡ get_or xs i x
    → mid ≡ old ++ flat_map f (take i xs) → f x ≡ [] → mid ≡ old ++ flat_map f (take (i + 1) xs)
flat-same f xs i x old mid within at so_far none =
    flat-next f xs i x old mid mid within at so_far (sym (append-nil mid) ∙ ap (λ ys. mid ++ ys) (sym none))

pub flat-none : {X A : Type 0} (old : List A) (xs : List X) → old ≡ old ++ flat_map (λ x. []) xs
flat-none old [] = sym (append-nil old)
flat-none old (x ∷ xs) = flat-none old xs

pub four-behind : {A : Type 0} (old p q r s a b c : List A) → a ≡ old ++ p → b ≡ a ++ q → c ≡ b ++ r → c ++ s ≡ old ++ (p ++ q ++ r ++ s)
four-behind old p q r s a b c first second third =
    ap (λ xs. xs ++ s) (third ∙ ap (λ xs. xs ++ r) (second ∙ ap (λ xs. xs ++ q) first))
    ∙ ap (λ xs. (xs ++ r) ++ s) (append_assoc old p q) ∙ ap (λ xs. xs ++ s) (append_assoc old (p ++ q) r) ∙ append_assoc old (p ++ q ++ r) s

pub six-behind : {A : Type 0} (old p q r s t u a b c d e : List A) → a ≡ old ++ p → b ≡ a ++ q → c ≡ b ++ r → d ≡ c ++ s → e ≡ d ++ t
    → e ++ u ≡ old ++ (p ++ q ++ r ++ s ++ t ++ u)
six-behind old p q r s t u a b c d e first second third fourth fifth =
    let front = fourth ∙ four-behind old p q r s a b c first second third in
    ap (λ xs. xs ++ u) (fifth ∙ ap (λ xs. xs ++ t) front)
    ∙ ap (λ xs. xs ++ u) (append_assoc old (p ++ q ++ r ++ s) t) ∙ append_assoc old (p ++ q ++ r ++ s ++ t) u
