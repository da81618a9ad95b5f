-- A `+` at the end of a label.
use Rattle.std.proofs.Common.{◌≡◌, ℕ, Bool, true, false, if◌then◌else◌, List, [], ◌∷◌, ◌++◌, length, nat_eq, refl, sym, ap, ◌∙◌, arith}
use Rattle.std.proofs.lemmas.Bool.{eqb-true}
use Rattle.service_model.specs.Labels.{without_plus}

pub plus_off : (front : List ℕ) → without_plus (front ++ 43 ∷ []) ≡ front
plus_off [] = refl
plus_off (x ∷ []) = refl
plus_off (x ∷ y ∷ ys) = ap (λ cs. x ∷ cs) (plus_off (y ∷ ys))

other_stays : (front : List ℕ) (last : ℕ) → nat_eq last 43 ≡ false → without_plus (front ++ last ∷ []) ≡ front ++ last ∷ []
other_stays [] last h = ap (λ b. if b then [] else last ∷ []) h
other_stays (x ∷ []) last h = ap (λ cs. x ∷ cs) (other_stays [] last h)
other_stays (x ∷ y ∷ ys) last h = ap (λ cs. x ∷ cs) (other_stays (y ∷ ys) last h)

differs : (b : Bool) (m n : ℕ) → nat_eq m n ≡ b → (m ≡ n → ⊥) → nat_eq m n ≡ false
differs true m n is other = absurd (other (eqb-true m n is))
differs false m n is other = is

pub name_of_plus : (label name : List ℕ) (last : ℕ) → label ≡ name ++ last ∷ [] → last ≡ 43 → name ≡ without_plus label
name_of_plus label name last is plus = sym (ap without_plus (is ∙ ap (λ c. name ++ c ∷ []) plus) ∙ plus_off name)

pub name_of_other : (label name : List ℕ) (last : ℕ) → label ≡ name ++ last ∷ [] → (last ≡ 43 → ⊥) → label ≡ without_plus label
name_of_other label name last is other = sym (ap without_plus is ∙ other_stays name last (differs (nat_eq last 43) last 43 refl other) ∙ sym is)

pub none_of_none : (label : List ℕ) → length label ≡ 0 → label ≡ without_plus label
none_of_none [] none = refl
none_of_none (c ∷ cs) none = absurd (omega (arith, none))
