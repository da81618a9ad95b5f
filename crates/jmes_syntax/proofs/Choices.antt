-- Cases of what was found or read, each with what it says.
use Rattle.std.proofs.Common.{◌≡◌, Bool, true, false, Option, None, Some, Result, Ok, Err, refl}

pub of_bool : {G : Type 0} (b : Bool) → (b ≡ true → G) → (b ≡ false → G) → G
of_bool true f g = f refl
of_bool false f g = g refl

pub of_option : {A G : Type 0} (o : Option A) → (o ≡ None → G) → ((x : A) → o ≡ Some x → G) → G
of_option None f g = f refl
of_option (Some x) f g = g x refl

pub of_result : {A S G : Type 0} (r : Result A S) → ((x : A) → r ≡ Ok x → G) → ((s : S) → r ≡ Err s → G) → G
of_result (Ok x) f g = f x refl
of_result (Err s) f g = g s refl
