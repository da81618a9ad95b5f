-- Members by their names, in a list that is looked through from a place on.
use Rattle.std.proofs.Common.{◌≡◌, ℕ, true, false, if◌then◌else◌, List, [], ◌∷◌, ◌++◌, None, Some, refl, sym, ap, subst, ◌∙◌}
use Rattle.std.specs.Prelude.{bytes_eq}
use Rattle.std.specs.Bool.{Decides}
use Rattle.std.specs.List.{All}
use Rattle.std.proofs.lemmas.List.Elements.{All-head, All-tail}
use Rattle.std.proofs.lemmas.Slice.Eq.{bytes_eq-Decides}
use Rattle.service_model.specs.declared.shape.Member.{Member}
use Rattle.service_model.specs.Shapes.{names_in}
use Rattle.texts.specs.Keys.{IsNew, IsDistinct}
use Rattle.typed_value.specs.Places.{member_named}
use Rattle.typed_value.specs.Wire.{member_sent_as}

differs : (a b : List ℕ) → (a ≡ b → ⊥) → bytes_eq a b ≡ false
differs a b other = elim (bytes_eq a b) as (λ t. Decides t (a ≡ b) → t ≡ false) [ true ↦ λ d. absurd (other (d.0 refl)) | false ↦ λ d. refl ] (bytes_eq-Decides a b)

-- a name that none of the members has isn't that of one that is found
new-differs : (k name : List ℕ) (ms : List Member) (m : Member) → IsNew k (names_in ms) → member_named name ms ≡ Some m → bytes_eq k name ≡ false
new-differs k name [] m new found = absurd (cc)
new-differs k name (x ∷ ms) m new found =
    elim (bytes_eq x.name name) as (λ t. Decides t (x.name ≡ name) → (if t then Some x else member_named name ms) ≡ Some m → bytes_eq k name ≡ false) [
      | true ↦ (λ d e. differs k name (λ same. new.0 (same ∙ sym (d.0 refl))))
      | false ↦ (λ d e. new-differs k name ms m new.1 e)
    ] (bytes_eq-Decides x.name name) found

-- where names are distinct, the member that is found behind is the one with that name
pub named-behind : (name : List ℕ) (before behind : List Member) (m : Member) → IsDistinct (names_in (before ++ behind))
    → member_named name behind ≡ Some m → member_named name (before ++ behind) ≡ Some m
named-behind name [] behind m distinct found = found
named-behind name (x ∷ before) behind m distinct found =
    let later = named-behind name before behind m distinct.1 found in
    ap (λ t. if t then Some x else member_named name (before ++ behind)) (new-differs x.name name (before ++ behind) m distinct.0 later) ∙ later

-- where there is none behind, it is the one before
pub named-before : (name : List ℕ) (before behind : List Member) → member_named name behind ≡ None → member_named name (before ++ behind) ≡ member_named name before
named-before name [] behind none = none
named-before name (x ∷ before) behind none = ap (λ o. if bytes_eq x.name name then Some x else o) (named-before name before behind none)

-- what holds of all members holds of the one that is found
pub named-all : (P : Member → Type 0) (name : List ℕ) (ms : List Member) (m : Member) → All P ms → member_named name ms ≡ Some m → P m
named-all P name [] m all found = absurd (cc)
named-all P name (x ∷ ms) m all found =
    elim (bytes_eq x.name name) as (λ t. (if t then Some x else member_named name ms) ≡ Some m → P m) [
      | true ↦ (λ e. let same : x ≡ m = cc in subst P same (All-head P x ms all))
      | false ↦ (λ e. named-all P name ms m (All-tail P x ms all) e)
    ] found

-- where names are distinct, the member that is sent under a name is the one with its own name
pub sent-named : (wire : List ℕ) (ms : List Member) (m : Member) → IsDistinct (names_in ms) → member_sent_as wire ms ≡ Some m → member_named m.name ms ≡ Some m
sent-named wire [] m distinct found = absurd (cc)
sent-named wire (x ∷ ms) m distinct found =
    elim (bytes_eq x.wire wire) as (λ t. (if t then Some x else member_sent_as wire ms) ≡ Some m → (if bytes_eq x.name m.name then Some x else member_named m.name ms) ≡ Some m) [
      | true ↦ (λ e. let same : x ≡ m = cc in
          ap (λ t. if t then Some x else member_named m.name ms) ((bytes_eq-Decides x.name m.name).1 (ap (λ y. y.name) same)) ∙ e)
      | false ↦ (λ e. let later = sent-named wire ms m distinct.1 e in
          ap (λ t. if t then Some x else member_named m.name ms) (new-differs x.name m.name ms m distinct.0 later) ∙ later)
    ] found
