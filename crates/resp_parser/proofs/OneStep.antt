-- Steps of which one thing alone may come.
use Rattle.std.proofs.Common.{◌≡◌, ◌⊎◌, inl, inr, Result, Ok, Err, refl, sym, ap, subst, ◌∙◌}
use Rattle.resp_parser.specs.Steps.{Step, Is, Then}

abbrev pub IsOne : {A E : Type 0} → Step A E → Type 0
IsOne {A} {E} May = (a b : Result A E) → May a → May b → a ≡ b

pub is-one : {A E : Type 0} (due : Result A E) → IsOne (Is due)
is-one due a b p q = p ∙ sym q

ok-same : {A E : Type 0} (x y : A) (r s : Result A E) → r ≡ s → r ≡ Ok x → s ≡ Ok y → x ≡ y
ok-same x y r s e p q = cc

err-same : {A E : Type 0} (x y : E) (r s : Result A E) → r ≡ s → r ≡ Err x → s ≡ Err y → x ≡ y
err-same x y r s e p q = cc

module _ {A B E : Type 0} (First : Step A E) (Second : A → Step B E) where
  pub then-one : IsOne First → ((x : A) → IsOne (Second x)) → IsOne (Then First Second)
  then-one one ones a b (inl p) (inl q) =
      let same : p.0 ≡ q.0 = err-same p.0 q.0 (Err p.0) (Err q.0) (one (Err p.0) (Err q.0) p.1 q.1) refl refl in
      p.2 ∙ ap Err same ∙ sym q.2
  then-one one ones a b (inl p) (inr q) = let e = one (Err p.0) (Ok q.0) p.1 q.1 in absurd (cc)
  then-one one ones a b (inr p) (inl q) = let e = one (Ok p.0) (Err q.0) p.1 q.1 in absurd (cc)
  then-one one ones a b (inr p) (inr q) =
      let same : p.0 ≡ q.0 = ok-same p.0 q.0 (Ok p.0) (Ok q.0) (one (Ok p.0) (Ok q.0) p.1 q.1) refl refl in
      ones q.0 a b (subst (λ x. Second x a) same p.2) q.2
