-- What marks on shapes say of operations.
use Rattle.std.proofs.Common.{◌≡◌, ℕ, suc, zero, ◌<◌, Bool, true, false, IsTrue, ◌||◌, List, [], ◌∷◌, ◌++◌, length, get_or, map, slice_get, option_to_list, Option, None, Some, IfSome, refl, sym, ap, ◌∙◌, inl, inr, ⊎_elim, ◌↔◌, set, take, subst, ◌+◌, ◌≤◌}
use Rattle.std.specs.List.{All, AllZip}
use Rattle.std.specs.Option.{option_map}
use Rattle.std.proofs.lemmas.Bool.{true≢false, cases_eq, or_cases, or_left, or_right}
use Rattle.std.proofs.lemmas.List.Elements.{All-nil, All-cons, All-append, All-map, All-more, All-weaker}
use Rattle.std.proofs.lemmas.List.{get_or-set_same, get_or-set_other, take_all}
use Rattle.std.proofs.lemmas.Option.{none-some, same_Some, slice_get_within}
use Rattle.service_model.specs.declared.operations.Row.{Row}
use Rattle.service_model.specs.declared.shape.Kind.{Kind}
use Rattle.service_model.specs.declared.shape.Kind.TheVariants.{Structure, Str}
use Rattle.service_model.specs.declared.shape.Shape.{Shape}
use Rattle.service_model.specs.declared.shape.ShapeId.{ShapeId}
use Rattle.service_model.specs.Admission.{ReachesMaybe, HasPart}
use Rattle.service_model.specs.Inside.{marked_at}
use Rattle.service_model.specs.Models.{IsOfKind, HasParts}
use Rattle.service_model.specs.Reach.{Reaches, LeadsTo, HasPartsBelow}

mark_there : {X : Type 0} (test : X → Bool) (xs : List X) (n : ℕ) → get_or (map test xs) n false ≡ true → (x : X) × (slice_get xs n ≡ Some x) × (test x ≡ true)
mark_there test [] n holds = absurd (true≢false (sym holds))
mark_there test (x ∷ xs) zero holds = (x, refl, holds)
mark_there test (x ∷ xs) (suc n) holds = mark_there test xs n holds

there_marked : {X : Type 0} (test : X → Bool) (xs : List X) (n : ℕ) (x : X) → slice_get xs n ≡ Some x → test x ≡ true → get_or (map test xs) n false ≡ true
there_marked test [] n x is holds = absurd (none-some x is)
there_marked test (y ∷ ys) zero x is holds = ap test (same_Some y x is) ∙ holds
there_marked test (y ∷ ys) (suc n) x is holds = there_marked test ys n x is holds

-- where the marks are those of a test, a shape that passes it is reached
pub reaches_marked : (shapes : List Shape) (test : Shape → Bool) (marks leads : List Bool) → marks ≡ map test shapes → ((from : ShapeId) → IsTrue (get_or leads from.0 false) ↔ LeadsTo shapes marks from)
    → (from : ShapeId) → IsTrue (get_or leads from.0 false) ↔ Reaches shapes (λ shape. IsTrue (test shape)) from
reaches_marked shapes test marks leads are leading from = (
  (λ holds. let led : LeadsTo shapes marks from = (leading from).0 holds in
      let there : (shape : Shape) × (slice_get shapes led.0.0 ≡ Some shape) × (test shape ≡ true) = mark_there test shapes led.0.0 (sym (ap (λ ms. get_or ms led.0.0 false) are) ∙ led.2) in
      (led.0, there.0, led.1, there.1, there.2)),
  (λ reaches. (leading from).1 (reaches.0, reaches.2, ap (λ ms. get_or ms reaches.0.0 false) are ∙ there_marked test shapes reaches.0.0 reaches.1 reaches.3 reaches.4)),
)

module _ (shapes : List Shape) (P : Shape → Type 0) (leads : List Bool) (leading : (from : ShapeId) → IsTrue (get_or leads from.0 false) ↔ Reaches shapes P from) where
  marked_reaches : (id : Option ShapeId) → marked_at leads id ≡ true → ReachesMaybe shapes P id
  marked_reaches None holds = absurd (true≢false (sym holds))
  marked_reaches (Some id) holds = (leading id).0 holds

  reaches_is_marked : (id : Option ShapeId) → ReachesMaybe shapes P id → marked_at leads id ≡ true
  reaches_is_marked None reaches = absurd reaches
  reaches_is_marked (Some id) reaches = (leading id).1 reaches

  pub has_part : (row : Row) → (marked_at leads row.input || marked_at leads row.output) ≡ true → HasPart shapes P row
  has_part row holds =
      ⊎_elim (λ one. inl (marked_reaches row.input one)) (λ two. inr (marked_reaches row.output two)) (or_cases (marked_at leads row.input) (marked_at leads row.output) holds)

  pub has_no_part : (row : Row) → (marked_at leads row.input || marked_at leads row.output) ≡ false → HasPart shapes P row → ⊥
  has_no_part row none part =
      true≢false (sym (⊎_elim (λ one. or_left (marked_at leads row.input) (marked_at leads row.output) (reaches_is_marked row.input one))
      (λ two. or_right (marked_at leads row.input) (marked_at leads row.output) (reaches_is_marked row.output two)) part) ∙ none)

kind_within : (shapes : List Shape) (n : ℕ) (kind : Kind) (found : Option Shape) → slice_get shapes n ≡ found → option_map (λ shape. shape.kind) found ≡ Some kind → n < length shapes
kind_within shapes n kind None is holds = absurd (none-some kind holds)
kind_within shapes n kind (Some shape) is holds = slice_get_within shapes n shape is

maybe_within : (shapes : List Shape) (kind : Kind) (id : Option ShapeId) → IfSome id (IsOfKind kind shapes) → IfSome id (λ known. known.0 < length shapes)
maybe_within shapes kind None is = tt
maybe_within shapes kind (Some id) is = kind_within shapes id.0 kind (slice_get shapes id.0) refl is

one_at_most : (P : ShapeId → Type 0) (id : Option ShapeId) → IfSome id P → All P (option_to_list id)
one_at_most P None is = All-nil P
one_at_most P (Some id) is = All-cons P id [] is (All-nil P)

pub parts_below : (shapes : List Shape) → All (HasParts shapes) shapes → All (HasPartsBelow (length shapes)) shapes
parts_below shapes all =
    let below : ShapeId → Type 0 = λ id. id.0 < length shapes in
    All-weaker (HasParts shapes) (HasPartsBelow (length shapes))
    (λ shape has. All-append below (map (λ m. m.shape) shape.members ++ option_to_list shape.item) (option_to_list shape.key)
    (All-append below (map (λ m. m.shape) shape.members) (option_to_list shape.item) (All-map below (λ m. m.shape) shape.members has.0) (one_at_most below shape.item has.1))
    (one_at_most below shape.key (maybe_within shapes Str shape.key has.2)))
    shapes all

pub inputs_within : (shapes : List Shape) (rows : List Row) → All (λ row. IfSome row.input (IsOfKind Structure shapes) × IfSome row.output (IsOfKind Structure shapes)) rows
    → All (λ row. IfSome row.input (λ id. id.0 < length shapes)) rows
inputs_within shapes rows all =
    All-weaker (λ row. IfSome row.input (IsOfKind Structure shapes) × IfSome row.output (IsOfKind Structure shapes)) (λ row. IfSome row.input (λ id. id.0 < length shapes))
    (λ row are. maybe_within shapes Structure row.input are.0) rows all

-- one more operation is admitted
pub zip_push : {A B : Type 0} (R : A → B → Type 0) (xs : List A) (ys : List B) (x : A) (y : B) → AllZip R xs ys → R x y → AllZip R (xs ++ x ∷ []) (ys ++ y ∷ [])
zip_push R [] [] x y all holds = (holds, tt)
zip_push R [] (b ∷ bs) x y all holds = absurd all
zip_push R (a ∷ others) [] x y all holds = absurd all
zip_push R (a ∷ others) (b ∷ bs) x y all holds = (all.0, zip_push R others bs x y all.1 holds)

abbrev pub HasMark : List Bool → Row → Type 0
HasMark marks row = IfSome row.input (λ id. get_or marks id.0 false ≡ true)

mark_stays : (marks : List Bool) (at : ℕ) (id : Option ShapeId) → at < length marks → IfSome id (λ known. get_or marks known.0 false ≡ true) → IfSome id (λ known. get_or (set marks at true) known.0 false ≡ true)
mark_stays marks at None within holds = tt
mark_stays marks at (Some id) within holds =
    ⊎_elim (λ same. ap (λ n. get_or (set marks at true) n false) same ∙ get_or-set_same marks at true false within) (λ other. get_or-set_other marks at id.0 true false other ∙ holds) (cases_eq id.0 at)

row_more : (marks : List Bool) (rows : List Row) (i : ℕ) (row : Row) → i < length rows → row ≡ get_or rows i row → HasMark marks row → All (HasMark marks) (take i rows) → All (HasMark marks) (take (i + 1) rows)
row_more marks rows i row within is holds all = All-more (HasMark marks) rows i row within all (subst (HasMark marks) is holds)

-- one more row's input is marked
pub marked_more : (marks : List Bool) (rows : List Row) (i : ℕ) (row : Row) (id : ShapeId) → i < length rows → row ≡ get_or rows i row → row.input ≡ Some id → id.0 < length marks
    → All (HasMark marks) (take i rows) → All (HasMark (set marks id.0 true)) (take (i + 1) rows)
marked_more marks rows i row id within is input known all =
    row_more (set marks id.0 true) rows i row within is (subst (λ o. IfSome o (λ k. get_or (set marks id.0 true) k.0 false ≡ true)) (sym input) (get_or-set_same marks id.0 true false known))
    (All-weaker (HasMark marks) (HasMark (set marks id.0 true)) (λ r holds. mark_stays marks id.0 r.input known holds) (take i rows) all)

-- or there is none
pub marked_same : (marks : List Bool) (rows : List Row) (i : ℕ) (row : Row) → i < length rows → row ≡ get_or rows i row → row.input ≡ None
    → All (HasMark marks) (take i rows) → All (HasMark marks) (take (i + 1) rows)
marked_same marks rows i row within is input all = row_more marks rows i row within is (subst (λ o. IfSome o (λ k. get_or marks k.0 false ≡ true)) (sym input) tt) all

pub marked_all : (marks : List Bool) (rows : List Row) (i : ℕ) → length rows ≤ i → All (HasMark marks) (take i rows) → All (HasMark marks) rows
marked_all marks rows i past all = subst (All (HasMark marks)) (take_all i rows past) all

pub known_here : (rows : List Row) (count i : ℕ) (row : Row) (id : ShapeId) → i < length rows → row ≡ get_or rows i row → row.input ≡ Some id → All (λ r. IfSome r.input (λ k. k.0 < count)) rows → id.0 < count
known_here rows count i row id within is input all =
    subst (λ o. IfSome o (λ k. k.0 < count)) input (subst (λ r. IfSome r.input (λ k. k.0 < count)) (sym is) (all i row within))
