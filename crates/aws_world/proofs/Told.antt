-- How what an object tells goes on from one call to the next.
use Rattle.std.proofs.Common.{◌≡◌, ◌++◌, [], List, Option, None, Some, refl, sym, ap, ◌∙◌, subst, append_assoc, append-nil}
use Rattle.aws_world.specs.Told.{Tells}

-- nothing happened
pub tells_none : {A : Type 0} (P : A → A → Type 0) (told : Option A) → ((x : A) → P x x) → Tells told told P
tells_none P None here = tt
tells_none P (Some x) here = here x

-- an object that stays as it is
pub tells_same : {A : Type 0} (P : A → A → Type 0) (first last : Option A) → last ≡ first → ((x : A) → P x x) → Tells first last P
tells_same P first last same here = subst (λ told. Tells first told P) (sym same) (tells_none P first here)

-- one step after another
pub tells_both : {A : Type 0} (P Q R : A → A → Type 0) (first mid last : Option A) → Tells first mid P → Tells mid last Q
    → ((x y z : A) → P x y → Q y z → R x z) → Tells first last R
tells_both P Q R first mid None p q both = tt
tells_both P Q R first None (Some z) p q both = absurd q
tells_both P Q R None (Some y) (Some z) p q both = absurd p
tells_both P Q R (Some x) (Some y) (Some z) p q both = both x y z p q

-- a relation that follows
pub tells_weaker : {A : Type 0} (P Q : A → A → Type 0) (first last : Option A) → Tells first last P → ((x z : A) → P x z → Q x z) → Tells first last Q
tells_weaker P Q first None p weaker = tt
tells_weaker P Q None (Some z) p weaker = absurd p
tells_weaker P Q (Some x) (Some z) p weaker = weaker x z p

-- a step that changed nothing, after another
pub tells_then_same : {A : Type 0} (P : A → A → Type 0) (first mid last : Option A) → Tells first mid P → Tells mid last (λ before after. after ≡ before)
    → Tells first last P
tells_then_same P first mid last p same = tells_both P (λ y z. z ≡ y) P first mid last p same (λ x y z h e. subst (P x) (sym e) h)

-- a step after one that changed nothing
pub same_then_tells : {A : Type 0} (P : A → A → Type 0) (first mid last : Option A) → Tells first mid (λ before after. after ≡ before) → Tells mid last P
    → Tells first last P
same_then_tells P first mid last same p =
    tells_both (λ x y. y ≡ x) P P first mid last same p (λ x y z e h. subst (λ w. P w z) e h)

-- the relation, where both contents are known
pub tells_at : {A : Type 0} (P : A → A → Type 0) (first last : Option A) (before after : A) → first ≡ Some before → last ≡ Some after → Tells first last P
    → P before after
tells_at P (Some x) (Some z) before after e f p = let e' : x ≡ before = cc in let f' : z ≡ after = cc in subst (λ w. P w after) e' (subst (P x) f' p)
tells_at P None last before after e f p = cc
tells_at P (Some x) None before after e f p = cc

-- an object that tells now told before
pub tells_before : {A : Type 0} (P : A → A → Type 0) (first last : Option A) (after : A) → last ≡ Some after → Tells first last P
    → (before : A) × (first ≡ Some before) × P before after
tells_before P (Some x) (Some z) after f p = let f' : z ≡ after = cc in (x, refl, subst (P x) f' p)
tells_before P None (Some z) after f p = absurd p
tells_before P first None after f p = cc

-- what two objects tell, put together
pub tells_joined : {A B : Type 0} (P : A → A → Type 0) (Q : B → B → Type 0) (R : A → A → B → B → Type 0) (a b : Option A) (c d : Option B) → Tells a b P
    → Tells c d Q → ((w x : A) (y z : B) → P w x → Q y z → R w x y z) → Tells a b (λ w x. Tells c d (R w x))
tells_joined P Q R a b c d p q joined =
    tells_weaker P (λ w x. Tells c d (R w x)) a b p (λ w x h. tells_weaker Q (R w x) c d q (λ y z k. joined w x y z h k))

-- one step of two objects after another
pub tells_joined_both : {A B : Type 0} (P Q R : A → A → B → B → Type 0) (a b c : Option A) (d e f : Option B) → Tells a b (λ x y. Tells d e (P x y))
    → Tells b c (λ y z. Tells e f (Q y z)) → ((x y z : A) (u v w : B) → P x y u v → Q y z v w → R x z u w) → Tells a c (λ x z. Tells d f (R x z))
tells_joined_both P Q R a b c d e f p q both =
    tells_both (λ x y. Tells d e (P x y)) (λ y z. Tells e f (Q y z)) (λ x z. Tells d f (R x z)) a b c p q (λ x y z h k. tells_both (P x y) (Q y z) (R x z) d e f h k (λ u v w. both x y z u v w))

-- items put at the end, twice
pub tells_appended_both : {A : Type 0} (xs ys : List A) (first mid last : Option (List A)) → Tells first mid (λ before after. after ≡ before ++ xs)
    → Tells mid last (λ before after. after ≡ before ++ ys) → Tells first last (λ before after. after ≡ before ++ (xs ++ ys))
tells_appended_both xs ys first mid last p q =
    tells_both (λ x y. y ≡ x ++ xs) (λ y z. z ≡ y ++ ys) (λ x z. z ≡ x ++ (xs ++ ys)) first mid last p q (λ x y z e f. f ∙ ap (λ w. w ++ ys) e ∙ append_assoc x xs ys)

-- no items put at the end
pub tells_appended_none : {A : Type 0} (told : Option (List A)) → Tells told told (λ before after. after ≡ before ++ [])
tells_appended_none told = tells_none (λ x z. z ≡ x ++ []) told (λ x. sym (append-nil x))
