-- Looking at a key of entries whose values were made of others.
use Rattle.std.proofs.Common.{◌≡◌, ℕ, Bool, true, false, if◌then◌else◌, List, [], ◌∷◌, map, Option, Some, ◌++◌, refl, sym, ap, ◌∙◌}
use Rattle.std.specs.Prelude.{bytes_eq, option_map}
use Rattle.service_model.specs.declared.shape.Member.{Member}
use Rattle.texts.specs.declared.pairs.Pair.{Pair}
use Rattle.texts.specs.Keys.{keys, value_at, IsDistinct, IsNew}
use Rattle.resp_parser.specs.Kept.{with_values}
use Rattle.resp_parser.specs.Inside.{values_of}

module _ {X Y : Type 0} (f : X → Y) where
  either : (b : Bool) (x : X) (o : Option X) (p : Option Y) → p ≡ option_map f o → (if b then Some (f x) else p) ≡ option_map f (if b then Some x else o)
  either true x o p e = refl
  either false x o p e = e

  pub at-with : (k : List ℕ) (ps : List (Pair X)) → value_at k (with_values f ps) ≡ option_map f (value_at k ps)
  at-with k [] = refl
  at-with k (p ∷ ps) = either (bytes_eq p.key k) p.value (value_at k ps) (value_at k (with_values f ps)) (at-with k ps)

  pub values-with : (members : List Member) (ps : List (Pair X)) → values_of members (with_values f ps) ≡ map (option_map f) (values_of members ps)
  values-with [] ps = refl
  values-with (m ∷ ms) ps =
      ap (λ o. o ∷ values_of ms (with_values f ps)) (at-with m.wire ps) ∙ ap (λ os. option_map f (value_at m.wire ps) ∷ os) (values-with ms ps)

  pub keys-with : (ps : List (Pair X)) → keys (with_values f ps) ≡ keys ps
  keys-with [] = refl
  keys-with (p ∷ ps) = ap (λ ks. p.key ∷ ks) (keys-with ps)

not-new : {X : Type 0} (k : List ℕ) (front : List (Pair X)) (p : Pair X) (rest : List (Pair X)) → IsNew k (keys (front ++ p ∷ rest)) → k ≡ p.key → ⊥
not-new k [] p rest new = new.0
not-new k (q ∷ front) p rest new = not-new k front p rest new.1

-- of distinct keys, each is none of those before it
pub new-front : {X : Type 0} (front : List (Pair X)) (p : Pair X) (rest : List (Pair X)) → IsDistinct (keys (front ++ p ∷ rest)) → IsNew p.key (keys front)
new-front [] p rest distinct = tt
new-front (q ∷ front) p rest distinct = ((λ e. not-new q.key front p rest distinct.0 (sym e)), new-front front p rest distinct.1)
