-- Members by the names under which they are sent, and the values that stand there.
use Rattle.std.proofs.Common.{◌≡◌, ℕ, zero, suc, ◌+◌, ◌<◌, true, false, if◌then◌else◌, List, [], ◌∷◌, ◌++◌, length, get_or, set, take, Option, None, Some, refl, sym, ap, subst, ◌∙◌, arith}
use Rattle.std.specs.Prelude.{slice_get, bytes_eq, option_map, IfNone, IfSome}
use Rattle.std.specs.Bool.{Decides}
use Rattle.std.proofs.lemmas.Bool.{false≢true}
use Rattle.std.proofs.lemmas.Option.{slice_get-map, slice_get_read}
use Rattle.std.proofs.lemmas.Slice.Eq.{bytes_eq-Decides}
use Rattle.service_model.specs.declared.shape.Member.{Member}
use Rattle.texts.specs.declared.pairs.Pair.{Pair}
use Rattle.texts.specs.Keys.{keys, value_at, IsDistinct, IsNew}
use Rattle.resp_parser.specs.Inside.{put_at, values_of, wires_in}

-- ---- places

pub wire-at : (members : List Member) (i : ℕ) (m : Member) → i < length members → m ≡ get_or members i m → slice_get (wires_in members) i ≡ Some m.wire
wire-at members i m within at =
    slice_get-map (λ x. x.wire) members i ∙ ap (option_map (λ x. x.wire)) (slice_get_read members (length members) i m refl within at)

pub new-push : (k : List ℕ) (members : List Member) (m : Member) → IsNew k (wires_in members) → (k ≡ m.wire → ⊥) → IsNew k (wires_in (members ++ m ∷ []))
new-push k [] m new other = (other, tt)
new-push k (x ∷ xs) m new other = (new.0, new-push k xs m new.1 other)

new-both : (k : List ℕ) (xs ys : List Member) → IsNew k (wires_in xs) → IsNew k (wires_in ys) → IsNew k (wires_in (xs ++ ys))
new-both k [] ys first second = second
new-both k (x ∷ xs) ys first second = (first.0, new-both k xs ys first.1 second)

pub new-in-both : (k : List ℕ) (xs ys : List Member) (o : Option ℕ) → IfNone o (IsNew k (wires_in xs)) → IsNew k (wires_in ys) → IfNone o (IsNew k (wires_in (xs ++ ys)))
new-in-both k xs ys None first second = new-both k xs ys first second
new-in-both k xs ys (Some i) first second = tt

pub behind-at : (xs ys : List Member) (i : ℕ) → slice_get (wires_in (xs ++ ys)) (length xs + i) ≡ slice_get (wires_in ys) i
behind-at [] ys i = let same : 0 + i ≡ i = omega arith in ap (slice_get (wires_in ys)) same
behind-at (x ∷ xs) ys i =
    let same : suc (length xs) + i ≡ suc (length xs + i) = omega arith in
    ap (slice_get (wires_in (x ∷ xs ++ ys))) same ∙ behind-at xs ys i

before-at : (k : List ℕ) (xs ys : List Member) (i : ℕ) → slice_get (wires_in xs) i ≡ Some k → slice_get (wires_in (xs ++ ys)) i ≡ Some k
before-at k [] ys i e = absurd (cc)
before-at k (x ∷ xs) ys zero e = e
before-at k (x ∷ xs) ys (suc i) e = before-at k xs ys i e

pub found-before : (k : List ℕ) (xs ys : List Member) (o : Option ℕ) → IfSome o (λ at. slice_get (wires_in xs) at ≡ Some k) → IfSome o (λ at. slice_get (wires_in (xs ++ ys)) at ≡ Some k)
found-before k xs ys None found = tt
found-before k xs ys (Some i) found = before-at k xs ys i found

-- ---- values

differs : (a b : List ℕ) → (a ≡ b → ⊥) → bytes_eq a b ≡ false
differs a b other = elim (bytes_eq a b) as (λ t. Decides t (a ≡ b) → t ≡ false) [ true ↦ λ d. absurd (other (d.0 refl)) | false ↦ λ d. refl ] (bytes_eq-Decides a b)

new-at : (j k : List ℕ) (members : List Member) (i : ℕ) → IsNew j (wires_in members) → slice_get (wires_in members) i ≡ Some k → j ≡ k → ⊥
new-at j k [] i new at same = cc
new-at j k (m ∷ ms) zero new at same = let here : m.wire ≡ k = cc in new.0 (same ∙ sym here)
new-at j k (m ∷ ms) (suc i) new at same = new-at j k ms i new.1 at same

module _ {X : Type 0} where
  missing : (k : List ℕ) (ps : List (Pair X)) (p : Pair X) → (p.key ≡ k → ⊥) → value_at k (ps ++ p ∷ []) ≡ value_at k ps
  missing k [] p other = ap (λ b. if b then Some p.value else None) (differs p.key k other)
  missing k (q ∷ ps) p other = ap (λ o. if bytes_eq q.key k then Some q.value else o) (missing k ps p other)

  there : (k : List ℕ) (ps : List (Pair X)) (p : Pair X) → p.key ≡ k → IsNew p.key (keys ps) → value_at k (ps ++ p ∷ []) ≡ Some p.value
  there k [] p same new = ap (λ b. if b then Some p.value else None) ((bytes_eq-Decides p.key k).1 same)
  there k (q ∷ ps) p same new =
      ap (λ b. if b then Some q.value else value_at k (ps ++ p ∷ [])) (differs q.key k (λ e. new.0 (same ∙ sym e))) ∙ there k ps p same new.1

  -- an entry that no member waits for
  values-same : (members : List Member) (ps : List (Pair X)) (p : Pair X) → IsNew p.key (wires_in members) → values_of members (ps ++ p ∷ []) ≡ values_of members ps
  values-same [] ps p new = refl
  values-same (m ∷ ms) ps p new =
      ap (λ o. o ∷ values_of ms (ps ++ p ∷ [])) (missing m.wire ps p new.0) ∙ ap (λ os. value_at m.wire ps ∷ os) (values-same ms ps p new.1)

  -- an entry that one member waits for
  values-set : (members : List Member) (ps : List (Pair X)) (p : Pair X) (i : ℕ) → slice_get (wires_in members) i ≡ Some p.key
      → IsDistinct (wires_in members) → IsNew p.key (keys ps) → set (values_of members ps) i (Some p.value) ≡ values_of members (ps ++ p ∷ [])
  values-set [] ps p i at distinct new = absurd (cc)
  values-set (m ∷ ms) ps p zero at distinct new =
      let here : m.wire ≡ p.key = cc in
      let others = values-same ms ps p (subst (λ k. IsNew k (wires_in ms)) here distinct.0) in
      sym (ap (λ o. o ∷ values_of ms (ps ++ p ∷ [])) (there m.wire ps p (sym here) new) ∙ ap (λ os. Some p.value ∷ os) others)
  values-set (m ∷ ms) ps p (suc i) at distinct new =
      let first = missing m.wire ps p (λ e. new-at m.wire p.key ms i distinct.0 at (sym e)) in
      ap (λ os. value_at m.wire ps ∷ os) (values-set ms ps p i at distinct.1 new) ∙ ap (λ o. o ∷ values_of ms (ps ++ p ∷ [])) (sym first)

  pub values-put : (members : List Member) (ps : List (Pair X)) (p : Pair X) (o : Option ℕ)
      → IfSome o (λ at. slice_get (wires_in members) at ≡ Some p.key) → IfNone o (IsNew p.key (wires_in members))
      → IsDistinct (wires_in members) → IsNew p.key (keys ps) → put_at o p.value (values_of members ps) ≡ values_of members (ps ++ p ∷ [])
  values-put members ps p None found none distinct new = sym (values-same members ps p none)
  values-put members ps p (Some i) found none distinct new = values-set members ps p i found distinct new
