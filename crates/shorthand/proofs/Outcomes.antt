-- A text has one tree or one fault.
use Rattle.std.proofs.Common.{◌≡◌, ℕ, List, [], ◌∷◌, ◌++◌, length, None, Some, refl, sym, ap, subst, ◌∙◌, ◌⊎◌, inl, inr, ⊎_elim, append_assoc, append-nil}
use Rattle.std.specs.Prelude.{Ok, Err, encode_utf8_all}
use Rattle.shorthand.specs.declared.begun.Group.{Group}
use Rattle.shorthand.specs.declared.fault.Stop.{Stop}
use Rattle.shorthand.specs.declared.fault.Stop.TheVariants.{Refused, RepeatedKey, OutOfMemory}
use Rattle.shorthand.specs.declared.places.Place.{Place}
use Rattle.shorthand.specs.declared.short.Short.{Short}
use Rattle.shorthand.specs.Faults.{GoesOn, IsLongest, fault_front, HasFault}
use Rattle.shorthand.specs.Grammar.{IsShorthand}
use Rattle.shorthand.specs.Reading.{step_at, finished_at}
use Rattle.shorthand.proofs.Characters.{head_is, tail_is}
use Rattle.shorthand.proofs.Finish.{ends_at}
use Rattle.shorthand.proofs.Goes.{Goes, StepOf}
use Rattle.shorthand.proofs.Reached.{IsReached, BlamesAt, begins, beginning, reaches, step_goes, stops_at, found_at, missed_at}

some_is : {a b : Short} → Some a ≡ Some b → a ≡ b
some_is e = cc

-- One tree.

tree_once : (ts f : List ℕ) (os : List Group) (p : Place) → IsReached f os p → (s t : Short) → IsShorthand (f ++ ts) s → IsShorthand (f ++ ts) t → s ≡ t
tree_once [] f os p h s t a b = some_is (sym ((ends_at os p h.valid s).0 ((h.goes s []).1 a)) ∙ (ends_at os p h.valid t).0 ((h.goes t []).1 b))
tree_once (c ∷ ts) f os p h s t a b =
    elim (step_at os p c) as (λ n. step_at os p c ≡ n → s ≡ t) [
      | Ok r ↦ (λ e. tree_once ts (f ++ c ∷ []) r.outer r.place (reaches f os p c r h e) s t
          (subst (λ x. IsShorthand x s) (sym (append_assoc f (c ∷ []) ts)) a) (subst (λ x. IsShorthand x t) (sym (append_assoc f (c ∷ []) ts)) b))
      | Err x ↦ (λ e.
          let refuse = subst (λ n. StepOf (λ t ts. Goes os p t (c ∷ ts)) n) e (step_goes os p c h.valid) in absurd (refuse s ts ((h.goes s (c ∷ ts)).1 a)))
    ] refl

pub one_tree : (text : List ℕ) (s t : Short) → IsShorthand text s → IsShorthand text t → s ≡ t
one_tree text s t a b = tree_once text [] [] beginning begins s t a b

-- A tree or a fault.

abbrev pub Outcome : List ℕ → Type 0
Outcome text = ((t : Short) × IsShorthand text t) ⊎ ((at : ℕ) × HasFault text at)

blamed : (f : List ℕ) (c : ℕ) (ts : List ℕ) (s : Stop) → BlamesAt f c ts s → Outcome (f ++ c ∷ ts)
blamed f c ts Refused h = inr (length (encode_utf8_all f), h)
blamed f c ts (RepeatedKey n) h = inr (h.0, h.2)
blamed f c ts OutOfMemory h = absurd h

outcome_of : (ts f : List ℕ) (os : List Group) (p : Place) → IsReached f os p → Outcome (f ++ ts)
outcome_of [] f os p h =
    subst Outcome (sym (append-nil f))
    (elim (finished_at os p) as (λ o. finished_at os p ≡ o → Outcome f) [
      | Some t ↦ (λ e. inl (t, found_at f os p t h e))
      | None ↦ (λ e. inr (length (encode_utf8_all f), missed_at f os p h e))
    ] refl)
outcome_of (c ∷ ts) f os p h =
    elim (step_at os p c) as (λ n. step_at os p c ≡ n → Outcome (f ++ c ∷ ts)) [
      | Ok r ↦ (λ e. subst Outcome (append_assoc f (c ∷ []) ts) (outcome_of ts (f ++ c ∷ []) r.outer r.place (reaches f os p c r h e)))
      | Err s ↦ (λ e. blamed f c ts s (stops_at f os p c ts s h e))
    ] refl

pub has_outcome : (text : List ℕ) → Outcome text
has_outcome text = outcome_of text [] [] beginning begins

-- One fault.

-- two fronts of a text: they are the same, or one goes on behind the other
abbrev pub GoesFurther : List ℕ → List ℕ → List ℕ → Type 0
GoesFurther f r g = (c : ℕ) × (k : List ℕ) × (more : List ℕ) × (r ≡ c ∷ more) × (g ≡ f ++ c ∷ k)

abbrev pub Fronts : List ℕ → List ℕ → List ℕ → List ℕ → Type 0
Fronts f r g q = ((f ≡ g) × (r ≡ q)) ⊎ (GoesFurther f r g ⊎ GoesFurther g q f)

fronts : (f g r q : List ℕ) → f ++ r ≡ g ++ q → Fronts f r g q
fronts [] [] r q e = inl (refl, e)
fronts [] (c ∷ g) r q e = inr (inl (c, g, g ++ q, e, refl))
fronts (c ∷ f) [] r q e = inr (inr (c, f, f ++ r, sym e, refl))
fronts (c ∷ f) (d ∷ g) r q e =
    let first = head_is e in
    ⊎_elim (λ same. inl (ap (λ x. c ∷ x) same.0 ∙ ap (λ x. x ∷ g) first, same.1))
    (λ apart. ⊎_elim (λ h. inr (inl (h.0, h.1, h.2, h.3, ap (λ x. d ∷ x) h.4 ∙ ap (λ x. x ∷ f ++ h.0 ∷ h.1) (sym first))))
    (λ h. inr (inr (h.0, h.1, h.2, h.3, ap (λ x. c ∷ x) h.4 ∙ ap (λ x. x ∷ g ++ h.0 ∷ h.1) first))) apart) (fronts f g r q (tail_is e))

no_further : (chars f r g q : List ℕ) → IsLongest chars f r → IsLongest chars g q → GoesFurther f r g → ⊥
no_further chars f r g q a b (c, k, more, is, longer) =
    let go = subst GoesOn longer b.goes_on in
    a.longest c more is (k ++ go.0, go.1, subst (λ x. IsShorthand x go.1) (append_assoc f (c ∷ k) go.0 ∙ sym (append_assoc f (c ∷ []) (k ++ go.0))) go.2)

pub one_fault : (text : List ℕ) (m n : ℕ) → HasFault text m → HasFault text n → m ≡ n
one_fault text m n a b =
    ⊎_elim (λ same. a.place ∙ ap (λ x. length (encode_utf8_all (fault_front x a.rest))) same.0 ∙ ap (λ x. length (encode_utf8_all (fault_front b.front x))) same.1 ∙ sym b.place)
    (λ apart. ⊎_elim (λ h. absurd (no_further text a.front a.rest b.front b.rest a.longest b.longest h)) (λ h. absurd (no_further text b.front b.rest a.front a.rest b.longest a.longest h)) apart)
    (fronts a.front b.front a.rest b.rest (sym a.longest.parts ∙ b.longest.parts))
