-- What each part gives in turn, from the left, up to the first fault.
use Rattle.std.proofs.Common.{◌≡◌, ℕ, ◌+◌, ◌<◌, ◌≤◌, Bool, true, false, List, [], ◌∷◌, ◌++◌, length, get_or, drop, map, Ok, Err, refl, append-nil, sym, ap, ◌∙◌, append_assoc, subst}
use Rattle.std.proofs.lemmas.List.{at_drop_more, at_drop_all}
use Rattle.texts.specs.declared.pairs.Pair.{Pair}
use Rattle.texts.specs.Calls.{◌>>=◌, Unless, Answers}
use Rattle.shape_values.specs.declared.fault.ArgFault.{ArgFault}
use Rattle.shape_values.specs.declared.fault.ArgFault.TheVariants.{Bad, File, OutOfMemory}
use Rattle.shape_values.specs.Faults.{Outcome, is_memory, under, to_item, to_name, each_from, each_field, field}

-- what is due comes, or memory was wanted
abbrev pub Comes : {A : Type 0} → Outcome A → Outcome A → Type 0
Comes {A} result due = Answers is_memory (λ (x : A). x) result due

pub unless-map : (b : Bool) {P Q : Type 0} → (P → Q) → Unless b P → Unless b Q
unless-map true f p = p
unless-map false f p = f p

-- a fault that comes of one due comes of the other
pub fails-through : {A B : Type 0} (fault : ArgFault) (due : Outcome A) (whole : Outcome B) → (due ≡ Err fault → whole ≡ Err fault) → Comes (Err fault) due → Comes (Err fault) whole
fails-through fault due whole f comes = unless-map (is_memory fault) f comes

memory-under : {A : Type 0} (result whole : Outcome A) → Comes result (Err OutOfMemory) → Comes result whole
memory-under (Ok x) whole comes = absurd (cc)
memory-under (Err OutOfMemory) whole comes = comes
memory-under (Err (Bad path kind)) whole comes = absurd (cc)
memory-under (Err (File path)) whole comes = absurd (cc)

-- what comes of a part, under its step, is what is due of the part under it
pub comes-under : {A : Type 0} (step : List ℕ) (due part result : Outcome A) → Comes part due → Comes result (under step part) → Comes result (under step due)
comes-under step due (Ok x) result comes is = subst (λ d. Comes result (under step d)) (sym comes) is
comes-under step due (Err OutOfMemory) result comes is = memory-under result (under step due) is
comes-under step due (Err (Bad path kind)) result comes is = subst (λ d. Comes result (under step d)) (sym comes) is
comes-under step due (Err (File path)) result comes is = subst (λ d. Comes result (under step d)) (sym comes) is

-- what is read, behind what was read before
abbrev pub with_front : {B : Type 0} → List B → Outcome (List B) → Outcome (List B)
with_front made (Err fault) = Err fault
with_front made (Ok ys) = Ok (made ++ ys)

pub nothing_in_front : {B : Type 0} (due : Outcome (List B)) → with_front [] due ≡ due
nothing_in_front (Err fault) = refl
nothing_in_front (Ok ys) = refl

pub one_more : {B : Type 0} (made : List B) (y : B) (due : Outcome (List B)) → with_front made (due >>= (λ ys. Ok (y ∷ ys))) ≡ with_front (made ++ y ∷ []) due
one_more made y (Err fault) = refl
one_more made y (Ok ys) = ap Ok (sym (append_assoc made (y ∷ []) ys))

pub from-map : {X Y A : Type 0} (f : Y → Outcome A) (g : X → Y) (n : ℕ) (xs : List X) → each_from f n (map g xs) ≡ each_from (λ x. f (g x)) n xs
from-map f g n [] = refl
from-map f g n (x ∷ xs) = ap (λ r. under (to_item n) (f (g x)) >>= (λ v. r >>= (λ vs. Ok (v ∷ vs)))) (from-map f g (n + 1) xs)

module _ {X A : Type 0} (f : X → Outcome A) (xs : List X) (i : ℕ) where
  from-at : (x : X) → i < length xs → x ≡ get_or xs i x
      → each_from f i (drop i xs) ≡ under (to_item i) (f x) >>= (λ v. each_from f (i + 1) (drop (i + 1) xs) >>= (λ vs. Ok (v ∷ vs)))
  from-at x within is =
      at_drop_more (each_from f i) xs i x within
      ∙ ap (λ z. under (to_item i) (f z) >>= (λ v. each_from f (i + 1) (drop (i + 1) xs) >>= (λ vs. Ok (v ∷ vs)))) (sym is)

  -- what one item gives is put behind what those before gave
  pub from-goes : (x : X) (v : A) (made : List A) (all : Outcome (List A)) → i < length xs → x ≡ get_or xs i x → under (to_item i) (f x) ≡ Ok v
      → with_front made (each_from f i (drop i xs)) ≡ all → with_front (made ++ v ∷ []) (each_from f (i + 1) (drop (i + 1) xs)) ≡ all
  from-goes x v made all within is gives before =
      sym (one_more made v (each_from f (i + 1) (drop (i + 1) xs)))
      ∙ ap (λ r. with_front made (r >>= (λ z. each_from f (i + 1) (drop (i + 1) xs) >>= (λ zs. Ok (z ∷ zs))))) (sym gives)
      ∙ ap (with_front made) (sym (from-at x within is)) ∙ before

  -- the fault of one item is that of all
  pub from-fails : (x : X) (fault : ArgFault) (made : List A) (all : Outcome (List A)) → i < length xs → x ≡ get_or xs i x → under (to_item i) (f x) ≡ Err fault
      → with_front made (each_from f i (drop i xs)) ≡ all → all ≡ Err fault
  from-fails x fault made all within is fails before =
      sym before ∙ ap (with_front made) (from-at x within is)
      ∙ ap (λ r. with_front made (r >>= (λ z. each_from f (i + 1) (drop (i + 1) xs) >>= (λ zs. Ok (z ∷ zs))))) fails

  -- past the last item, what was read is all
  pub from-done : (made : List A) (all : Outcome (List A)) → length xs ≤ i → with_front made (each_from f i (drop i xs)) ≡ all → all ≡ Ok made
  from-done made all past before = sym before ∙ ap (with_front made) (at_drop_all (each_from f i) xs i past) ∙ ap Ok (append-nil made)

module _ {X A : Type 0} (f : Pair X → Outcome A) (ps : List (Pair X)) (i : ℕ) where
  field-at : (p : Pair X) → i < length ps → p ≡ get_or ps i p
      → each_field f (drop i ps) ≡ under (to_name p.key) (f p) >>= (λ v. each_field f (drop (i + 1) ps) >>= (λ qs. Ok (field p.key v ∷ qs)))
  field-at p within is =
      at_drop_more (each_field f) ps i p within
      ∙ ap (λ q. under (to_name q.key) (f q) >>= (λ v. each_field f (drop (i + 1) ps) >>= (λ qs. Ok (field q.key v ∷ qs)))) (sym is)

  pub field-goes : (p : Pair X) (v : A) (made : List (Pair A)) (all : Outcome (List (Pair A))) → i < length ps → p ≡ get_or ps i p → under (to_name p.key) (f p) ≡ Ok v
      → with_front made (each_field f (drop i ps)) ≡ all → with_front (made ++ field p.key v ∷ []) (each_field f (drop (i + 1) ps)) ≡ all
  field-goes p v made all within is gives before =
      sym (one_more made (field p.key v) (each_field f (drop (i + 1) ps)))
      ∙ ap (λ r. with_front made (r >>= (λ z. each_field f (drop (i + 1) ps) >>= (λ zs. Ok (field p.key z ∷ zs))))) (sym gives)
      ∙ ap (with_front made) (sym (field-at p within is)) ∙ before

  pub field-fails : (p : Pair X) (fault : ArgFault) (made : List (Pair A)) (all : Outcome (List (Pair A))) → i < length ps → p ≡ get_or ps i p → under (to_name p.key) (f p) ≡ Err fault
      → with_front made (each_field f (drop i ps)) ≡ all → all ≡ Err fault
  field-fails p fault made all within is fails before =
      sym before ∙ ap (with_front made) (field-at p within is)
      ∙ ap (λ r. with_front made (r >>= (λ z. each_field f (drop (i + 1) ps) >>= (λ zs. Ok (field p.key z ∷ zs))))) fails

  pub field-done : (made : List (Pair A)) (all : Outcome (List (Pair A))) → length ps ≤ i → with_front made (each_field f (drop i ps)) ≡ all → all ≡ Ok made
  field-done made all past before = sym before ∙ ap (with_front made) (at_drop_all (each_field f) ps i past) ∙ ap Ok (append-nil made)
