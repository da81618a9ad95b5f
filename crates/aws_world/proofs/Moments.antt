-- What a clock tells over several calls.
use Rattle.std.proofs.Common.{◌≡◌, ℕ, ℤ, List, [], ◌∷◌, ◌++◌, Option, sym, ap, ◌∙◌, append_assoc, append-nil}
use Rattle.aws_world.specs.Told.{Tells}
use Rattle.aws_world.specs.Moments.{Moments, with_moment, with_pause, with_more}
use Rattle.aws_world.proofs.Told.{tells_none, tells_both}

with_more_none : (x : Moments) → with_more [] [] x ≡ x
with_more_none x =
    ap (λ given. record { given = given; pauses = x.pauses ++ [] }) (append-nil x.given) ∙ ap (λ pauses. record { given = x.given; pauses = pauses }) (append-nil x.pauses)

-- no moment given and no pause asked for
pub tells_moments_none : (told : Option Moments) → Tells told told (λ before after. after ≡ with_more [] [] before)
tells_moments_none told = tells_none (λ x z. z ≡ with_more [] [] x) told (λ x. sym (with_more_none x))

-- one more moment
pub tells_moment_more : (moments : List ℤ) (pauses : List ℕ) (moment : ℤ) (first mid last : Option Moments)
    → Tells first mid (λ before after. after ≡ with_more moments pauses before)
    → Tells mid last (λ before after. after ≡ with_moment moment before)
    → Tells first last (λ before after. after ≡ with_more (moments ++ moment ∷ []) pauses before)
tells_moment_more moments pauses moment first mid last p q =
    tells_both (λ x y. y ≡ with_more moments pauses x) (λ y z. z ≡ with_moment moment y) (λ x z. z ≡ with_more (moments ++ moment ∷ []) pauses x) first mid last p q (λ x y z e f. f ∙ ap (with_moment moment) e ∙ ap (λ given. record { given = given; pauses = x.pauses ++ pauses }) (append_assoc x.given moments (moment ∷ [])))

-- one more pause
pub tells_pause_more : (moments : List ℤ) (pauses : List ℕ) (ms : ℕ) (first mid last : Option Moments)
    → Tells first mid (λ before after. after ≡ with_more moments pauses before)
    → Tells mid last (λ before after. after ≡ with_pause ms before)
    → Tells first last (λ before after. after ≡ with_more moments (pauses ++ ms ∷ []) before)
tells_pause_more moments pauses ms first mid last p q =
    tells_both (λ x y. y ≡ with_more moments pauses x) (λ y z. z ≡ with_pause ms y) (λ x z. z ≡ with_more moments (pauses ++ ms ∷ []) x) first mid last p q (λ x y z e f. f ∙ ap (with_pause ms) e ∙ ap (λ asked. record { given = x.given ++ moments; pauses = asked }) (append_assoc x.pauses pauses (ms ∷ [])))
