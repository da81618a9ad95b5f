-- Finding something for each item of a list, from the left.
use Rattle.std.proofs.Common.{◌≡◌, ℕ, ◌+◌, ◌<◌, ◌≤◌, List, [], ◌∷◌, ◌++◌, length, get_or, drop, Option, None, Some, refl, append-nil, sym, ap, ◌∙◌, append_assoc}
use Rattle.std.proofs.lemmas.List.{at_drop_more, at_drop_all}
use Rattle.aws_main.specs.Finding.{◌>>=◌, each}

-- what is found, behind what was found before
abbrev pub with_front : {B : Type 0} → List B → Option (List B) → Option (List B)
with_front made None = None
with_front made (Some ys) = Some (made ++ ys)

pub nothing_in_front : {B : Type 0} (found : Option (List B)) → with_front [] found ≡ found
nothing_in_front None = refl
nothing_in_front (Some ys) = refl

one_more : {B : Type 0} (made : List B) (y : B) (found : Option (List B)) → with_front made (found >>= (λ ys. Some (y ∷ ys))) ≡ with_front (made ++ y ∷ []) found
one_more made y None = refl
one_more made y (Some ys) = ap Some (sym (append_assoc made (y ∷ []) ys))

each_at : {A B : Type 0} (f : A → Option B) (xs : List A) (i : ℕ) (x : A) (found : Option B) → i < length xs → x ≡ get_or xs i x → f x ≡ found → each f (drop i xs) ≡ found >>= (λ y. each f (drop (i + 1) xs) >>= (λ ys. Some (y ∷ ys)))
each_at f xs i x found inside is at = at_drop_more (each f) xs i x inside ∙ ap (λ o. o >>= (λ y. each f (drop (i + 1) xs) >>= (λ ys. Some (y ∷ ys)))) (ap f (sym is) ∙ at)

-- one item's find is put behind those before
pub each_goes : {A B : Type 0} (f : A → Option B) (xs : List A) (i : ℕ) (x : A) (y : B) (made : List B) (all : Option (List B)) → i < length xs → x ≡ get_or xs i x → f x ≡ Some y → with_front made (each f (drop i xs)) ≡ all → with_front (made ++ y ∷ []) (each f (drop (i + 1) xs)) ≡ all
each_goes f xs i x y made all inside is at before = sym (one_more made y (each f (drop (i + 1) xs))) ∙ ap (with_front made) (sym (each_at f xs i x (Some y) inside is at)) ∙ before

-- where nothing is found for an item, nothing is found
pub each_fails : {A B : Type 0} (f : A → Option B) (xs : List A) (i : ℕ) (x : A) (made : List B) (all : Option (List B)) → i < length xs → x ≡ get_or xs i x → f x ≡ None → with_front made (each f (drop i xs)) ≡ all → all ≡ None
each_fails f xs i x made all inside is at before = sym before ∙ ap (with_front made) (each_at f xs i x None inside is at)

-- past the last item, what was found is all
pub each_done : {A B : Type 0} (f : A → Option B) (xs : List A) (i : ℕ) (made : List B) (all : Option (List B)) → length xs ≤ i → with_front made (each f (drop i xs)) ≡ all → all ≡ Some made
each_done f xs i made all past before = sym before ∙ ap (with_front made) (at_drop_all (each f) xs i past) ∙ ap Some (append-nil made)
