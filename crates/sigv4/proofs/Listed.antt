-- Names that are listed, with one more.
use Rattle.std.proofs.Common.{◌≡◌, ℕ, ◌⊎◌, inl, inr, ⊎_elim, List, [], ◌∷◌, ◌++◌, sym, subst}
use Rattle.std.specs.Prelude.{Contains, ◌↔◌}
use Rattle.std.proofs.lemmas.List.Elements.{Contains-append_left, Contains-push, Contains-push_cases}

pub listed_more : (names more xs : List (List ℕ)) (name : List ℕ) → ((other : List ℕ) → Contains names other ↔ Contains xs other)
    → ((other : List ℕ) → Contains more other ↔ (Contains names other ⊎ (other ≡ name))) → (other : List ℕ) → Contains more other ↔ Contains (xs ++ name ∷ []) other
listed_more names more xs name before step other = (
  λ h. ⊎_elim (λ (l : Contains names other). Contains-append_left xs (name ∷ []) other ((before other).0 l))
      (λ (e : other ≡ name). subst (Contains (xs ++ name ∷ [])) (sym e) (Contains-push xs name)) ((step other).0 h),
  λ h. (step other).1 (⊎_elim (λ (l : Contains xs other). inl ((before other).1 l)) (λ (e : name ≡ other). inr (sym e)) (Contains-push_cases xs name other h)),
)
