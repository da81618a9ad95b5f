-- The fit of the parts of a value.
use Rattle.std.proofs.Common.{◌≡◌, ℕ, ◌+◌, ◌<◌, Bool, true, false, ◌&&◌, ◌||◌, if◌then◌else◌, List, [], ◌∷◌, map, length, get_or, take, Option, Some, refl, sym, ap, ◌∙◌}
use Rattle.std.specs.Prelude.{pos, bytes_eq}
use Rattle.std.specs.List.{list_all}
use Rattle.std.proofs.lemmas.List.{length-map}
use Rattle.std.proofs.lemmas.List.Folds.{list_all-map, list_all_more, list_all_at}
use Rattle.service_model.specs.declared.shape.Member.{Member}
use Rattle.service_model.specs.declared.shape.Shape.{Shape}
use Rattle.service_model.specs.declared.shape.ShapeId.{ShapeId}
use Rattle.texts.specs.declared.pairs.Pair.{Pair}
use Rattle.typed_value.specs.declared.typed.Typed.{Typed}
use Rattle.typed_value.specs.declared.typed.Typed.TheOpen.{Typed-F}
use Rattle.typed_value.specs.declared.wanted.Wanted.{Wanted}
use Rattle.typed_value.specs.Fits.{Test, with_values, has_one, has_key, item_fits, member_fits, structure_fits, fields_fit, inside_fits, fits_where}
use Rattle.typed_value.specs.Kinds.{is_map, is_enough}
use Rattle.typed_value.specs.Places.{of_shape, of_member, member_named}

-- Lists of which each element passes.
pub all-passed : {X : Type 0} (xs : List X) → list_all (λ x. true) xs ≡ true
all-passed [] = refl
all-passed (x ∷ xs) = all-passed xs

all-same : {X : Type 0} (p q : X → Bool) (xs : List X) → ((x : X) → p x ≡ q x) → list_all p xs ≡ list_all q xs
all-same p q [] same = refl
all-same p q (x ∷ xs) same = ap (λ b. b && list_all p xs) (same x) ∙ ap (λ b. q x && b) (all-same p q xs same)

pub all-next : {X : Type 0} (p : X → Bool) (xs : List X) (i : ℕ) (x : X) → i < length xs → x ≡ get_or xs i x → list_all p (take i xs) ≡ true → p x ≡ true
    → list_all p (take (i + 1) xs) ≡ true
all-next p xs i x within at so_far passes =
    list_all_more p xs i x within ∙ ap (λ b. b && p (get_or xs i x)) so_far ∙ sym (ap p at) ∙ passes

pub all-fails : {X : Type 0} (p : X → Bool) (xs : List X) (i : ℕ) (x : X) → i < length xs → x ≡ get_or xs i x → p x ≡ false → list_all p xs ≡ false
all-fails p xs i x within at fails = list_all_at p xs i x within (sym (ap p at) ∙ fails)

pub rest-of : (a b c : Bool) → a ≡ true → b ≡ true → (a && (b && c)) ≡ c
rest-of a b c first second = ap (λ x. x && (b && c)) first ∙ ap (λ x. x && c) second

pub first-fails : (a b : Bool) → a ≡ false → (a && b) ≡ false
first-fails a b fails = ap (λ x. x && b) fails

pub second-fails : (a b c : Bool) → b ≡ false → (a && (b && c)) ≡ false
second-fails true b c fails = ap (λ x. x && c) fails
second-fails false b c fails = refl

-- an item's fit, as it was tested at the root of its table
pub item-tested : (shapes : List Shape) (v root : Typed) (w : Wanted) (item : Option ShapeId) (id : ShapeId) (tested b : Bool)
    → item ≡ Some id → w ≡ of_shape id → root ≡ v → tested ≡ fits_where shapes root w → tested ≡ b → item_fits item (fits_where shapes v) ≡ b
item-tested shapes v root w item id tested b known wanted same test is =
    ap (λ o. item_fits o (fits_where shapes v)) known ∙ sym (ap (λ x. fits_where shapes v x) wanted) ∙ sym (ap (λ x. fits_where shapes x w) same) ∙ sym test ∙ is

pub member-tested : (shapes : List Shape) (v root : Typed) (w : Wanted) (found : Option Member) (m : Member) (tested b : Bool)
    → found ≡ Some m → w ≡ of_member m → root ≡ v → tested ≡ fits_where shapes root w → tested ≡ b → member_fits found (fits_where shapes v) ≡ b
member-tested shapes v root w found m tested b known wanted same test is =
    ap (λ o. member_fits o (fits_where shapes v)) known ∙ sym (ap (λ x. fits_where shapes v x) wanted) ∙ sym (ap (λ x. fits_where shapes x w) same) ∙ sym test ∙ is

-- Entries, each with what is made of its value.
pub keyed-same : {X Y : Type 0} (f : X → Y) (ps : List (Pair X)) (name : List ℕ) → has_key (with_values f ps) name ≡ has_key ps name
keyed-same f [] name = refl
keyed-same f (p ∷ ps) name = ap (λ b. bytes_eq p.key name || b) (keyed-same f ps name)

module _ (f : Typed → Test) (shape : Shape) where
  pub inside-items : (vs : List Typed) → inside_fits shape (Typed-F.Items (map f vs)) ≡ (is_enough shape.min (pos (length vs)) && list_all (λ v. item_fits shape.item (f v)) vs)
  inside-items vs =
      ap (λ n. is_enough shape.min (pos n) && list_all (item_fits shape.item) (map f vs)) (length-map vs f)
      ∙ ap (λ b. is_enough shape.min (pos (length vs)) && b) (list_all-map (item_fits shape.item) f vs)

  pub fields-map : (ps : List (Pair Typed)) → is_map shape.kind ≡ true → fields_fit shape (with_values f ps) ≡ list_all (λ p. item_fits shape.item (f p.value)) ps
  fields-map ps map_kind =
      let due = with_values f ps in
      ap (λ b. if b then list_all (λ p. item_fits shape.item p.value) due else structure_fits shape due) map_kind
      ∙ list_all-map (λ p. item_fits shape.item p.value) (λ p. record { key = p.key; value = f p.value }) ps

  pub fields-structure : (ps : List (Pair Typed)) → is_map shape.kind ≡ false
      → fields_fit shape (with_values f ps) ≡ (has_one shape (length ps) && (list_all (has_key ps) shape.required
      && list_all (λ p. member_fits (member_named p.key shape.members) (f p.value)) ps))
  fields-structure ps other_kind =
      let due = with_values f ps in
      let members = list_all (λ p. member_fits (member_named p.key shape.members) p.value) due in
      ap (λ b. if b then list_all (λ p. item_fits shape.item p.value) due else structure_fits shape due) other_kind
      ∙ ap (λ n. has_one shape n && (list_all (has_key due) shape.required && members)) (length-map ps (λ p. record { key = p.key; value = f p.value }))
      ∙ ap (λ b. has_one shape (length ps) && (b && members)) (all-same (has_key due) (has_key ps) shape.required (keyed-same f ps))
      ∙ ap (λ b. has_one shape (length ps) && (list_all (has_key ps) shape.required && b))
      (list_all-map (λ p. member_fits (member_named p.key shape.members) p.value) (λ p. record { key = p.key; value = f p.value }) ps)
