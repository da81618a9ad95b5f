-- Names in a set and in a list.
use Rattle.std.proofs.Common.{◌≡◌, ℕ, nat_eq, Bool, true, false, ◌||◌, if◌then◌else◌, List, [], ◌∷◌, ◌++◌, refl, sym, ap, ◌∙◌}
use Rattle.std.specs.Cmp.Lexicographic.{pointwise}
use Rattle.std.specs.List.{list_any}
use Rattle.std.specs.Str.{bytes_eq}
use Rattle.std.proofs.lemmas.List.Folds.{list_any-append}
use Rattle.std.proofs.lemmas.Slice.Eq.{bytes_eq-Decides}
use Rattle.std.proofs.Math.Bool.{or-false}
use Rattle.indexmap.specs.IndexSet.{insert_key}

last_or : (name k : List ℕ) (ks : List (List ℕ)) → list_any (bytes_eq name) (ks ++ k ∷ []) ≡ (list_any (bytes_eq name) ks || bytes_eq name k)
last_or name k ks = list_any-append (bytes_eq name) ks (k ∷ []) ∙ ap (λ b. list_any (bytes_eq name) ks || b) (or-false (bytes_eq name k))

there_or : (name k : List ℕ) (ks : List (List ℕ)) (b : Bool) → list_any (bytes_eq k) ks ≡ true → bytes_eq name k ≡ b
    → list_any (bytes_eq name) ks ≡ (list_any (bytes_eq name) ks || b)
there_or name k ks false there is = sym (or-false (list_any (bytes_eq name) ks))
there_or name k ks true there is =
    let holds : list_any (bytes_eq name) ks ≡ true = ap (λ n. list_any (bytes_eq n) ks) ((bytes_eq-Decides name k).0 is) ∙ there in
    holds ∙ ap (λ b. b || true) (sym holds)

by_there : (name k : List ℕ) (ks : List (List ℕ)) (b : Bool) → list_any (bytes_eq k) ks ≡ b
    → list_any (bytes_eq name) (if b then ks else ks ++ k ∷ []) ≡ (list_any (bytes_eq name) ks || bytes_eq name k)
by_there name k ks true there = there_or name k ks (bytes_eq name k) there refl
by_there name k ks false there = last_or name k ks

-- a set with one more name
pub any_insert : (name k : List ℕ) (ks : List (List ℕ)) → list_any (bytes_eq name) (insert_key (pointwise nat_eq) ks k) ≡ (list_any (bytes_eq name) ks || bytes_eq name k)
any_insert name k ks = by_there name k ks (list_any (bytes_eq k) ks) refl

pub with_limit : (name k limit : List ℕ) (ks inputs : List (List ℕ)) → k ≡ limit → list_any (bytes_eq name) ks ≡ list_any (bytes_eq name) inputs
    → list_any (bytes_eq name) (insert_key (pointwise nat_eq) ks k) ≡ list_any (bytes_eq name) (inputs ++ limit ∷ [])
with_limit name k limit ks inputs same is =
    any_insert name k ks ∙ ap (λ b. b || bytes_eq name k) is ∙ ap (λ n. list_any (bytes_eq name) inputs || bytes_eq name n) same ∙ sym (last_or name limit inputs)
