-- Times without a text among the parts of a value.
use Rattle.std.proofs.Common.{◌≡◌, Bool, false, ◌||◌, List, [], ◌∷◌, map, Some, refl, sym, ap, rules, ◌∙◌}
use Rattle.std.specs.Prelude.{slice_get}
use Rattle.std.specs.List.{list_any}
use Rattle.service_model.specs.declared.shape.Shape.{Shape}
use Rattle.service_model.specs.declared.shape.TimeForm.{TimeForm}
use Rattle.typed_value.specs.declared.typed.Typed.{Typed, the_lemmas}
use Rattle.typed_value.specs.declared.typed.Typed.TheVariants.{Items}
use Rattle.typed_value.specs.declared.typed.Typed.TheOpen.{Typed-F}
use Rattle.value_texts.specs.declared.slot.Slot.{Slot}
use Rattle.value_texts.specs.LostTimes.{item_is_lost, shape_is_lost, is_lost}

any-map : {A B : Type 0} (test : B → Bool) (f : A → B) (xs : List A) → list_any test (map f xs) ≡ list_any (λ x. test (f x)) xs
any-map test f [] = refl
any-map test f (x ∷ xs) = ap (λ b. test (f x) || b) (any-map test f xs)

pub any-none : {A : Type 0} (xs : List A) → list_any (λ x. false) xs ≡ false
any-none [] = refl
any-none (x ∷ xs) = any-none xs

lost-at : (shapes : List Shape) (usual : TimeForm) (vs : List Typed) (slot : Slot)
    → is_lost shapes usual (Items vs) slot ≡ shape_is_lost shapes usual (slice_get shapes slot.shape.0) (Typed-F.Items (map (is_lost shapes usual) vs)) slot
lost-at shapes usual vs slot = search (rules, the_lemmas)

-- a time in an item is one in the list
pub lost-Items : (shapes : List Shape) (usual : TimeForm) (slot : Slot) (shape : Shape) → Some shape ≡ slice_get shapes slot.shape.0 → (vs : List Typed)
    → is_lost shapes usual (Items vs) slot ≡ list_any (λ v. item_is_lost shape.item (is_lost shapes usual v)) vs
lost-Items shapes usual slot shape is vs =
    lost-at shapes usual vs slot ∙ ap (λ o. shape_is_lost shapes usual o (Typed-F.Items (map (is_lost shapes usual) vs)) slot) (sym is)
    ∙ any-map (item_is_lost shape.item) (is_lost shapes usual) vs
