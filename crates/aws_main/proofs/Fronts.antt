-- Fronts of bytes that are written in parts.
use Rattle.std.proofs.Common.{◌≡◌, ℕ, zero, suc, ◌+◌, List, [], ◌∷◌, ◌++◌, length, take, Option, Result, Ok, Err, refl, sym, ap, ◌∙◌, append_assoc}
use Rattle.std.specs.Prelude.{OnOk, OnErr}
use Rattle.std.proofs.Math.Seq.{take-append-add}
use Rattle.aws_world.specs.Told.{Tells}
use Rattle.aws_world.proofs.Told.{tells_both, tells_weaker}
use Rattle.aws_main.specs.Causes.{GainsFront}

-- a front of the first part is a front of the whole
take_first : (n : ℕ) (a rest : List ℕ) → (m : ℕ) × (take m (a ++ rest) ≡ take n a)
take_first zero a rest = (0, refl)
take_first (suc n) [] rest = (0, refl)
take_first (suc n) (x ∷ xs) rest = let m = take_first n xs rest in (suc m.0, ap (λ ys. x ∷ ys) m.1)

-- where a front of the first part was put at the end, so was a front of the whole
pub front_of_first : (a rest : List ℕ) (first last : Option (List ℕ)) → Tells first last (GainsFront a) → Tells first last (GainsFront (a ++ rest))
front_of_first a rest first last p =
    tells_weaker (GainsFront a) (GainsFront (a ++ rest)) first last p (λ x z g. let m = take_first g.0 a rest in (m.0, g.1 ∙ ap (λ front. x ++ front) (sym m.1)))

-- the first part, and then a front of the rest
pub front_of_rest : (a rest : List ℕ) (first mid last : Option (List ℕ)) → Tells first mid (λ before after. after ≡ before ++ a)
    → Tells mid last (GainsFront rest) → Tells first last (GainsFront (a ++ rest))
front_of_rest a rest first mid last p q =
    tells_both (λ x y. y ≡ x ++ a) (GainsFront rest) (GainsFront (a ++ rest)) first mid last p q
    (λ x y z e g. (
      length a + g.0,
      g.1 ∙ ap (λ w. w ++ take g.0 rest) e ∙ append_assoc x a (take g.0 rest) ∙ ap (λ front. x ++ front) (sym (take-append-add a rest g.0)),
    ))

-- the first part, and then the rest
pub put_then : (a rest : List ℕ) (first mid last : Option (List ℕ)) → Tells first mid (λ before after. after ≡ before ++ a)
    → Tells mid last (λ before after. after ≡ before ++ rest) → Tells first last (λ before after. after ≡ before ++ (a ++ rest))
put_then a rest first mid last p q =
    tells_both (λ x y. y ≡ x ++ a) (λ x y. y ≡ x ++ rest) (λ x y. y ≡ x ++ (a ++ rest)) first mid last p q (λ x y z e f. f ∙ ap (λ w. w ++ rest) e ∙ append_assoc x a rest)

-- what follows from an error
pub on_err : {T E : Type 0} (P Q : Type 0) (result : Result T E) → OnErr result P → (P → Q) → OnErr result Q
on_err P Q (Ok x) fact follows = tt
on_err P Q (Err e) fact follows = follows fact

pub on_ok : {T E : Type 0} (P Q : Type 0) (result : Result T E) → OnOk result P → (P → Q) → OnOk result Q
on_ok P Q (Ok x) fact follows = follows fact
on_ok P Q (Err e) fact follows = tt

-- a fact that needs no error
pub always_on_err : {T E : Type 0} (P : Type 0) (result : Result T E) → P → OnErr result P
always_on_err P (Ok x) fact = tt
always_on_err P (Err e) fact = fact
