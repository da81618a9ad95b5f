-- Reading each part of a list in turn, from the left, up to the first fault.
use Rattle.std.proofs.Common.{◌≡◌, ℕ, ◌+◌, ◌<◌, ◌≤◌, List, [], ◌∷◌, ◌++◌, length, get_or, drop, Result, Ok, Err, refl, append-nil, sym, ap, ◌∙◌, append_assoc, subst}
use Rattle.std.proofs.lemmas.List.{at_drop_more, at_drop_all}
use Rattle.std.specs.Fmt.{decimal}
use Rattle.texts.specs.declared.pairs.Pair.{Pair}
use Rattle.model_files.specs.declared.fault.ModelFault.{ModelFault}
use Rattle.model_files.specs.declared.fault.ModelFault.TheVariants.{Missing, UnknownShape, WrongKind, Collides, OutOfMemory}
use Rattle.model_files.specs.Faults.{moved, inside, each, each_from, IsFault, is_memory}
use Rattle.texts.specs.Calls.{◌>>=◌, Unless, Answers}

-- a call that fails does so for the fault that is due, or for want of memory
abbrev pub Fails : {A : Type 0} → ModelFault → Result A ModelFault → Type 0
Fails fault due = Unless (is_memory fault) (due ≡ Err fault)

-- what is read, behind what was read before
abbrev pub with_front : {B : Type 0} → List B → Result (List B) ModelFault → Result (List B) ModelFault
with_front made (Err fault) = Err fault
with_front made (Ok ys) = Ok (made ++ ys)

pub nothing_in_front : {B : Type 0} (due : Result (List B) ModelFault) → with_front [] due ≡ due
nothing_in_front (Err fault) = refl
nothing_in_front (Ok ys) = refl

pub one_more : {B : Type 0} (made : List B) (y : B) (due : Result (List B) ModelFault) → with_front made (due >>= (λ ys. Ok (y ∷ ys))) ≡ with_front (made ++ y ∷ []) due
one_more made y (Err fault) = refl
one_more made y (Ok ys) = ap Ok (sym (append_assoc made (y ∷ []) ys))

-- a fault of a part is that of the whole, moved below its key
pub fails_moved : {A : Type 0} (key : List ℕ) (inner outer : ModelFault) (due : Result A ModelFault) → Fails inner due → IsFault outer (moved key inner) → Fails outer (inside key due)
fails_moved key OutOfMemory OutOfMemory due fails is = is
fails_moved key OutOfMemory (Missing p) due fails is = absurd (cc)
fails_moved key OutOfMemory (UnknownShape p) due fails is = absurd (cc)
fails_moved key OutOfMemory (WrongKind p) due fails is = absurd (cc)
fails_moved key OutOfMemory (Collides p) due fails is = absurd (cc)
fails_moved key (Missing q) OutOfMemory due fails is = is
fails_moved key (Missing q) (Missing p) due fails is = ap (inside key) fails ∙ ap Err is
fails_moved key (Missing q) (UnknownShape p) due fails is = ap (inside key) fails ∙ ap Err is
fails_moved key (Missing q) (WrongKind p) due fails is = ap (inside key) fails ∙ ap Err is
fails_moved key (Missing q) (Collides p) due fails is = ap (inside key) fails ∙ ap Err is
fails_moved key (UnknownShape q) OutOfMemory due fails is = is
fails_moved key (UnknownShape q) (Missing p) due fails is = ap (inside key) fails ∙ ap Err is
fails_moved key (UnknownShape q) (UnknownShape p) due fails is = ap (inside key) fails ∙ ap Err is
fails_moved key (UnknownShape q) (WrongKind p) due fails is = ap (inside key) fails ∙ ap Err is
fails_moved key (UnknownShape q) (Collides p) due fails is = ap (inside key) fails ∙ ap Err is
fails_moved key (WrongKind q) OutOfMemory due fails is = is
fails_moved key (WrongKind q) (Missing p) due fails is = ap (inside key) fails ∙ ap Err is
fails_moved key (WrongKind q) (UnknownShape p) due fails is = ap (inside key) fails ∙ ap Err is
fails_moved key (WrongKind q) (WrongKind p) due fails is = ap (inside key) fails ∙ ap Err is
fails_moved key (WrongKind q) (Collides p) due fails is = ap (inside key) fails ∙ ap Err is
fails_moved key (Collides q) OutOfMemory due fails is = is
fails_moved key (Collides q) (Missing p) due fails is = ap (inside key) fails ∙ ap Err is
fails_moved key (Collides q) (UnknownShape p) due fails is = ap (inside key) fails ∙ ap Err is
fails_moved key (Collides q) (WrongKind p) due fails is = ap (inside key) fails ∙ ap Err is
fails_moved key (Collides q) (Collides p) due fails is = ap (inside key) fails ∙ ap Err is

-- a fault that is due is that of a reading that ends with it
pub is_due : (A : Type 0) (fault due : ModelFault) → IsFault fault due → Fails {A = A} fault (Err due)
is_due A OutOfMemory due is = is
is_due A (Missing p) due is = ap Err is
is_due A (UnknownShape p) due is = ap Err is
is_due A (WrongKind p) due is = ap Err is
is_due A (Collides p) due is = ap Err is

is_moved : (A : Type 0) (outer due : ModelFault) → Fails {A = A} outer (Err due) → IsFault outer due
is_moved A OutOfMemory due fails = tt
is_moved A (Missing p) due fails = cc
is_moved A (UnknownShape p) due fails = cc
is_moved A (WrongKind p) due fails = cc
is_moved A (Collides p) due fails = cc

no_fault : {A P : Type 0} (fault : ModelFault) (x : A) → Fails fault (Ok x) → (fault ≡ OutOfMemory → P) → P
no_fault OutOfMemory x fails k = k refl
no_fault (Missing p) x fails k = absurd (cc)
no_fault (UnknownShape p) x fails k = absurd (cc)
no_fault (WrongKind p) x fails k = absurd (cc)
no_fault (Collides p) x fails k = absurd (cc)

-- what stands at the key was read as is due, so it is as is due of the whole
pub gives_inside : {T U : Type 0} (view : T → U) (key : List ℕ) (due : Result U ModelFault) (read result : Result T ModelFault)
    → Answers is_memory view read due → Answers is_memory (λ x. x) result (inside key read) → Answers is_memory view result (inside key due)
gives_inside view key due (Ok x) (Ok y) gives is = ap (inside key) gives ∙ ap (λ r. elim r [ Ok z ↦ Ok (view z) | Err f ↦ Err f ]) is
gives_inside view key due (Ok x) (Err fault) gives is = no_fault fault x is (λ none. subst (λ f. Fails f (inside key due)) (sym none) tt)
gives_inside view key due (Err inner) (Ok y) gives is = absurd (cc)
gives_inside view key due (Err inner) (Err outer) gives is = fails_moved key inner outer due gives (is_moved _ outer (moved key inner) is)

-- where what stands at the key was read well, it is what is due
pub due_ok : {T U : Type 0} (view : T → U) (key : List ℕ) (due : Result U ModelFault) (read : Result T ModelFault) (y : T)
    → Answers is_memory view read due → inside key read ≡ Ok y → due ≡ Ok (view y)
due_ok view key due (Ok x) y gives is = let same : x ≡ y = cc in gives ∙ ap (λ z. Ok (view z)) same
due_ok view key due (Err fault) y gives is = absurd (cc)

-- the fault of a first step ends the steps
pub fails_first : {A B : Type 0} (fault : ModelFault) (due : Result A ModelFault) (f : A → Result B ModelFault) → Fails fault due → Fails fault (due >>= f)
fails_first OutOfMemory due f fails = fails
fails_first (Missing p) due f fails = ap (λ r. r >>= f) fails
fails_first (UnknownShape p) due f fails = ap (λ r. r >>= f) fails
fails_first (WrongKind p) due f fails = ap (λ r. r >>= f) fails
fails_first (Collides p) due f fails = ap (λ r. r >>= f) fails

pub fails_in_front : {B : Type 0} (made : List B) (fault : ModelFault) (due : Result (List B) ModelFault) → Fails fault due → Fails fault (with_front made due)
fails_in_front made OutOfMemory due fails = fails
fails_in_front made (Missing p) due fails = ap (with_front made) fails
fails_in_front made (UnknownShape p) due fails = ap (with_front made) fails
fails_in_front made (WrongKind p) due fails = ap (with_front made) fails
fails_in_front made (Collides p) due fails = ap (with_front made) fails

pub fails_same : {A : Type 0} (fault : ModelFault) (due all : Result A ModelFault) → due ≡ all → Fails fault due → Fails fault all
fails_same fault due all same fails = subst (Fails fault) same fails

module _ {A B : Type 0} (f : Pair A → Result B ModelFault) where
  each_at : (ps : List (Pair A)) (i : ℕ) (p : Pair A) → i < length ps → p ≡ get_or ps i p
      → each f (drop i ps) ≡ inside p.key (f p) >>= (λ y. each f (drop (i + 1) ps) >>= (λ ys. Ok (y ∷ ys)))
  each_at ps i p within is =
      at_drop_more (each f) ps i p within
      ∙ ap (λ q. inside q.key (f q) >>= (λ y. each f (drop (i + 1) ps) >>= (λ ys. Ok (y ∷ ys)))) (sym is)

  -- what one pair gives is put behind what those before gave
  pub each_goes : (ps : List (Pair A)) (i : ℕ) (p : Pair A) (y : B) (made : List B) (all : Result (List B) ModelFault)
      → i < length ps → p ≡ get_or ps i p → f p ≡ Ok y → with_front made (each f (drop i ps)) ≡ all
      → with_front (made ++ y ∷ []) (each f (drop (i + 1) ps)) ≡ all
  each_goes ps i p y made all within is gives before =
      sym (one_more made y (each f (drop (i + 1) ps)))
      ∙ ap (λ r. with_front made (inside p.key r >>= (λ x. each f (drop (i + 1) ps) >>= (λ xs. Ok (x ∷ xs))))) (sym gives)
      ∙ ap (with_front made) (sym (each_at ps i p within is)) ∙ before

  -- the fault of one pair is that of all
  pub each_fails : (ps : List (Pair A)) (i : ℕ) (p : Pair A) (inner outer : ModelFault) (made : List B) (all : Result (List B) ModelFault)
      → i < length ps → p ≡ get_or ps i p → Fails inner (f p) → IsFault outer (moved p.key inner)
      → with_front made (each f (drop i ps)) ≡ all → Fails outer all
  each_fails ps i p inner outer made all within is fails due before =
      fails_same outer (with_front made (each f (drop i ps))) all before
      (fails_in_front made outer (each f (drop i ps))
      (fails_same outer (inside p.key (f p) >>= (λ y. each f (drop (i + 1) ps) >>= (λ ys. Ok (y ∷ ys)))) (each f (drop i ps)) (sym (each_at ps i p within is))
      (fails_first outer (inside p.key (f p)) (λ y. each f (drop (i + 1) ps) >>= (λ ys. Ok (y ∷ ys))) (fails_moved p.key inner outer (f p) fails due))))

  -- past the last pair, what was read is all
  pub each_done : (ps : List (Pair A)) (i : ℕ) (made : List B) (all : Result (List B) ModelFault) → length ps ≤ i → with_front made (each f (drop i ps)) ≡ all → all ≡ Ok made
  each_done ps i made all past before =
      sym before ∙ ap (with_front made) (at_drop_all (each f) ps i past) ∙ ap Ok (append-nil made)

module _ {A B : Type 0} (f : A → Result B ModelFault) where
  from_at : (xs : List A) (i : ℕ) (x : A) → i < length xs → x ≡ get_or xs i x
      → each_from f i (drop i xs) ≡ inside (decimal i) (f x) >>= (λ y. each_from f (i + 1) (drop (i + 1) xs) >>= (λ ys. Ok (y ∷ ys)))
  from_at xs i x within is =
      at_drop_more (each_from f i) xs i x within
      ∙ ap (λ z. inside (decimal i) (f z) >>= (λ y. each_from f (i + 1) (drop (i + 1) xs) >>= (λ ys. Ok (y ∷ ys)))) (sym is)

  -- what one item gives is put behind what those before gave
  pub from_goes : (xs : List A) (i : ℕ) (x : A) (y : B) (made : List B) (all : Result (List B) ModelFault)
      → i < length xs → x ≡ get_or xs i x → f x ≡ Ok y → with_front made (each_from f i (drop i xs)) ≡ all
      → with_front (made ++ y ∷ []) (each_from f (i + 1) (drop (i + 1) xs)) ≡ all
  from_goes xs i x y made all within is gives before =
      sym (one_more made y (each_from f (i + 1) (drop (i + 1) xs)))
      ∙ ap (λ r. with_front made (inside (decimal i) r >>= (λ z. each_from f (i + 1) (drop (i + 1) xs) >>= (λ zs. Ok (z ∷ zs))))) (sym gives)
      ∙ ap (with_front made) (sym (from_at xs i x within is)) ∙ before

  -- the fault of one item is that of all
  pub from_fails : (xs : List A) (i : ℕ) (x : A) (inner outer : ModelFault) (made : List B) (all : Result (List B) ModelFault)
      → i < length xs → x ≡ get_or xs i x → Fails inner (f x) → IsFault outer (moved (decimal i) inner)
      → with_front made (each_from f i (drop i xs)) ≡ all → Fails outer all
  from_fails xs i x inner outer made all within is fails due before =
      fails_same outer (with_front made (each_from f i (drop i xs))) all before
      (fails_in_front made outer (each_from f i (drop i xs))
      (fails_same outer (inside (decimal i) (f x) >>= (λ y. each_from f (i + 1) (drop (i + 1) xs) >>= (λ ys. Ok (y ∷ ys)))) (each_from f i (drop i xs)) (sym (from_at xs i x within is))
      (fails_first outer (inside (decimal i) (f x)) (λ y. each_from f (i + 1) (drop (i + 1) xs) >>= (λ ys. Ok (y ∷ ys))) (fails_moved (decimal i) inner outer (f x) fails due))))

  -- past the last item, what was read is all
  pub from_done : (xs : List A) (i : ℕ) (made : List B) (all : Result (List B) ModelFault) → length xs ≤ i → with_front made (each_from f i (drop i xs)) ≡ all → all ≡ Ok made
  from_done xs i made all past before =
      sym before ∙ ap (with_front made) (at_drop_all (each_from f i) xs i past) ∙ ap Ok (append-nil made)
