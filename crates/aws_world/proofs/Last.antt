-- Changes of a list's last item, one after another.
use Rattle.std.proofs.Common.{◌≡◌, suc, List, [], ◌∷◌, ◌++◌, length, Option, refl, sym, ap, ◌∙◌}
use Rattle.aws_world.specs.Told.{Tells}
use Rattle.aws_world.specs.Connection.{on_last}
use Rattle.aws_world.proofs.Told.{tells_both}

-- the last item is the one that was put at the end
pub on_last_at_end : {A : Type 0} (step : A → A) (xs : List A) (x : A) → on_last step (xs ++ x ∷ []) ≡ xs ++ step x ∷ []
on_last_at_end step [] x = refl
on_last_at_end step (y ∷ []) x = refl
on_last_at_end step (y ∷ (z ∷ ys)) x = ap (λ w. y ∷ w) (on_last_at_end step (z ∷ ys) x)

-- two changes are one
pub on_last_both : {A : Type 0} (f g : A → A) (xs : List A) → on_last g (on_last f xs) ≡ on_last (λ x. g (f x)) xs
on_last_both f g [] = refl
on_last_both f g (x ∷ []) = refl
on_last_both f g (x ∷ (y ∷ [])) = refl
on_last_both f g (x ∷ (y ∷ (z ∷ xs))) = ap (λ w. x ∷ w) (on_last_both f g (y ∷ (z ∷ xs)))

-- a change that does the same
pub on_last_alike : {A : Type 0} (f g : A → A) (xs : List A) → ((x : A) → f x ≡ g x) → on_last f xs ≡ on_last g xs
on_last_alike f g [] same = refl
on_last_alike f g (x ∷ []) same = ap (λ w. w ∷ []) (same x)
on_last_alike f g (x ∷ (y ∷ ys)) same = ap (λ w. x ∷ w) (on_last_alike f g (y ∷ ys) same)

-- a change that does nothing
pub on_last_idle : {A : Type 0} (f : A → A) (xs : List A) → ((x : A) → f x ≡ x) → on_last f xs ≡ xs
on_last_idle f [] idle = refl
on_last_idle f (x ∷ []) idle = ap (λ w. w ∷ []) (idle x)
on_last_idle f (x ∷ (y ∷ ys)) idle = ap (λ w. x ∷ w) (on_last_idle f (y ∷ ys) idle)

-- no item is lost
pub length-on_last : {A : Type 0} (f : A → A) (xs : List A) → length (on_last f xs) ≡ length xs
length-on_last f [] = refl
length-on_last f (x ∷ []) = refl
length-on_last f (x ∷ (y ∷ ys)) = ap suc (length-on_last f (y ∷ ys))

-- two changes of the last item, told
pub tells_changed_both : {A : Type 0} (f g h : A → A) (first mid last : Option (List A)) → Tells first mid (λ before after. after ≡ on_last f before)
    → Tells mid last (λ before after. after ≡ on_last g before) → ((x : A) → g (f x) ≡ h x) → Tells first last (λ before after. after ≡ on_last h before)
tells_changed_both f g h first mid last p q joined =
    tells_both (λ x y. y ≡ on_last f x) (λ y z. z ≡ on_last g y) (λ x z. z ≡ on_last h x) first mid last p q (λ x y z d e. e ∙ ap (on_last g) d ∙ on_last_both f g x ∙ on_last_alike (λ w. g (f w)) h x joined)

-- a new last item, which is then changed
pub tells_added_then : {A : Type 0} (c : A) (step : A → A) (first mid last : Option (List A)) → Tells first mid (λ before after. after ≡ before ++ c ∷ [])
    → Tells mid last (λ before after. after ≡ on_last step before) → Tells first last (λ before after. after ≡ before ++ step c ∷ [])
tells_added_then c step first mid last p q =
    tells_both (λ x y. y ≡ x ++ c ∷ []) (λ y z. z ≡ on_last step y) (λ x z. z ≡ x ++ step c ∷ []) first mid last p q (λ x y z d e. e ∙ ap (on_last step) d ∙ on_last_at_end step x c)

-- the last item taken off, changed and put back
pub on_last_back : {A : Type 0} (step : A → A) (before rest after : List A) (x y : A) → before ≡ rest ++ x ∷ [] → after ≡ rest ++ y ∷ []
    → y ≡ step x → after ≡ on_last step before
on_last_back step before rest after x y e f changed =
    f ∙ ap (λ z. rest ++ z ∷ []) changed ∙ sym (ap (on_last step) e ∙ on_last_at_end step rest x)
