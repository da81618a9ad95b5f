-- Readings one behind the other.
use Rattle.std.proofs.Common.{◌≡◌, ℕ, Bool, true, false, Option, None, Some, List, [], ◌∷◌, refl, ap, ◌==◌}
use Rattle.std.proofs.lemmas.Bool.{eqb-true, eq-eqb}
use Rattle.moments.specs.Inside.{◌>>◌, only_if, past}
use Rattle.moments.specs.Times.{begins_with}

-- what went on with something
pub bound : {A B : Type 0} (m : Option A) (f : A → Option B) (y : B) → m >> f ≡ Some y → (x : A) × (m ≡ Some x) × (f x ≡ Some y)
bound None f y e = absurd (cc)
bound (Some x) f y e = (x, refl, e)

pub goes_on : {A B : Type 0} {m : Option A} {x : A} (f : A → Option B) → m ≡ Some x → m >> f ≡ f x
goes_on f e = ap (λ o. o >> f) e

pub held : {A : Type 0} (b : Bool) (x y : A) → only_if b x ≡ Some y → (b ≡ true) × (x ≡ y)
held true x y e = (refl, cc)
held false x y e = absurd (cc)

pub past_holds : (c : ℕ) (ts us : List ℕ) → past c ts ≡ Some us → ts ≡ c ∷ us
past_holds c [] us e = absurd (cc)
past_holds c (d ∷ ds) us e = let h = held (d == c) ds us e in let same : d ≡ c = eqb-true d c h.0 in let rest : ds ≡ us = h.1 in cc

pub past_reads : (c : ℕ) (ts us : List ℕ) → ts ≡ c ∷ us → past c ts ≡ Some us
past_reads c ts us e = rw e (ap (λ b. only_if b us) (eq-eqb c c refl))

pub no_past : (c : ℕ) (ts : List ℕ) → past c ts ≡ None → begins_with c ts ≡ false
no_past c [] e = refl
no_past c (d ∷ ds) e = by (d == c) e
  where
    by : (b : Bool) → only_if b ds ≡ None → b ≡ false
    by true f = absurd (cc)
    by false f = refl

pub past_none : (c : ℕ) (ts : List ℕ) → begins_with c ts ≡ false → past c ts ≡ None
past_none c [] e = refl
past_none c (d ∷ ds) e = ap (λ b. only_if b ds) e
