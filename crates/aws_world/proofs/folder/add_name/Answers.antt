use Rattle.std.proofs.Common.{◌≡◌, ◌≢◌, ◌⊎◌, inl, inr, ⊎_elim, ℕ, List, [], Ok, Err}
use Rattle.std.specs.Prelude.{Contains, Result, OnOk, ◌↔◌}
use Rattle.std.proofs.lemmas.Bool.{false≢true}
use Rattle.aws_world.proofs.folder.add_name.Goals as goal

-- a name that isn't empty
some_name : {T E : Type 0} (r : Result T E) (old new : List (List ℕ)) (name : List ℕ) → name ≢ []
    → OnOk r ((other : List ℕ) → Contains new other ↔ (Contains old other ⊎ (other ≡ name)))
    → OnOk r ((other : List ℕ) → Contains new other ↔ (Contains old other ⊎ ((other ≡ name) × (name ≢ []))))
some_name (Err e) old new name some exact = tt
some_name (Ok v) old new name some exact = λ other. (
  λ h. ⊎_elim (λ l. inl l) (λ (e : other ≡ name). inr (e, some)) ((exact other).0 h),
  λ h. (exact other).1 (⊎_elim (λ (l : Contains old other). inl l) (λ (r : (other ≡ name) × (name ≢ [])). inr r.0) h),
)

pub returns-clause-exact : goal.returns-clause-exact
returns-clause-exact c =
    some_name c.put_in_order.result _ _ c.args.name (λ none. false≢true (c.if-is_empty.ensures.1 none)) c.put_in_order.ensures.exact
