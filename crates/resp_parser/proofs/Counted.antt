-- The unknown member of a union, among entries whose values were made of others.
use Rattle.std.proofs.Common.{◌≡◌, Bool, true, false, ◌&&◌, not, if◌then◌else◌, List, [], ◌∷◌, filter, None, refl, ap, ◌∙◌}
use Rattle.std.specs.Prelude.{bytes_eq, codes, option_and_then}
use Rattle.service_model.specs.declared.shape.Shape.{Shape}
use Rattle.texts.specs.declared.pairs.Pair.{Pair}
use Rattle.resp_parser.specs.Kept.{is_counted, only_key, pair_of, unknown_tag, unless_sent, with_values}

module _ {X Y : Type 0} (f : X → Y) (test : X → Bool) (made : Y → Bool) (same : (x : X) → made (f x) ≡ test x) where
  one : (p : Pair X) → is_counted made (pair_of p.key (f p.value)) ≡ is_counted test p
  one p = ap (λ b. not (bytes_eq p.key (codes "__type")) && not b) (same p.value)

  either : (b c : Bool) (p : Pair X) (ps : List (Pair X)) (qs : List (Pair Y)) → b ≡ c → qs ≡ with_values f ps
      → (if b then pair_of p.key (f p.value) ∷ qs else qs) ≡ with_values f (if c then p ∷ ps else ps)
  either true true p ps qs e d = ap (λ rs. pair_of p.key (f p.value) ∷ rs) d
  either false false p ps qs e d = d
  either true false p ps qs e d = absurd (cc)
  either false true p ps qs e d = absurd (cc)

  counted : (ps : List (Pair X)) → filter (is_counted made) (with_values f ps) ≡ with_values f (filter (is_counted test) ps)
  counted [] = refl
  counted (p ∷ ps) =
      either (is_counted made (pair_of p.key (f p.value))) (is_counted test p) p (filter (is_counted test) ps)
      (filter (is_counted made) (with_values f ps)) (one p) (counted ps)

  only : (ps : List (Pair X)) → only_key (with_values f ps) ≡ only_key ps
  only [] = refl
  only (p ∷ []) = refl
  only (p ∷ q ∷ ps) = refl

  pub tag-with : (shape : Shape) (ps : List (Pair X)) → unknown_tag made shape (with_values f ps) ≡ unknown_tag test shape ps
  tag-with shape ps =
      ap (λ o. if shape.is_union then option_and_then (unless_sent shape.members) o else None)
      (ap only_key (counted ps) ∙ only (filter (is_counted test) ps))
