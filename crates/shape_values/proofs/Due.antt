-- What comes is due.
use Rattle.std.proofs.Common.{◌≡◌, ℕ, ◌+◌, true, false, List, [], ◌∷◌, ◌++◌, length, Option, Some, Ok, Err, refl, sym, ap, subst}
use Rattle.std.specs.Prelude.{slice_get, MatchBool}
use Rattle.service_model.specs.declared.shape.Kind.{Kind}
use Rattle.service_model.specs.declared.shape.Kind.TheVariants as kind
use Rattle.service_model.specs.declared.shape.Shape.{Shape}
use Rattle.service_model.specs.declared.shape.ShapeId.{ShapeId}
use Rattle.shorthand.specs.Grammar.{begins_with}
use Rattle.texts.specs.Calls.{◌>>=◌}
use Rattle.typed_value.specs.declared.typed.Typed.{Typed}
use Rattle.typed_value.specs.declared.typed.Typed.TheVariants as typed
use Rattle.typed_value.specs.Kinds.{is_list, is_map, is_structure}
use Rattle.shape_values.specs.declared.fault.ArgFault.{ArgFault}
use Rattle.shape_values.specs.declared.fault.ArgFault.TheVariants.{Bad, File, OutOfMemory}
use Rattle.shape_values.specs.declared.fault.ValueKind.TheVariants.{NeedsJson}
use Rattle.shape_values.specs.declared.place.Place.{Place}
use Rattle.shape_values.specs.Faults.{Outcome, UnlessMemory, is_memory, here, under, to_item}
use Rattle.shape_values.specs.Instants.{Instants}
use Rattle.shape_values.specs.Places.{takes_json, holds_lists}
use Rattle.shape_values.specs.Scalars.{scalar_of}
use Rattle.shape_values.specs.TextValues.{Next, Then, Under, IsJsonValue, IsAnyDocument, IsKindValue, IsValueAt, IsTextValue, IsElement, AreElements, IsListValue, IsSoleValue}
use Rattle.shape_values.proofs.Each.{Comes, unless-map, with_front, nothing_in_front, one_more}

-- the one that is due is one that may come
pub due-comes : {A : Type 0} (P : Outcome A → Type 0) (due r : Outcome A) → ((s : Outcome A) → s ≡ due → P s) → Comes r due → UnlessMemory P r
due-comes P due (Ok x) f comes = f (Ok x) (sym comes)
due-comes P due (Err fault) f comes = unless-map (is_memory fault) (λ is. f (Err fault) (sym is)) comes

part-under : {A : Type 0} (P : Outcome A → Type 0) (step : List ℕ) (part r : Outcome A) → P part → Comes r (under step part) → UnlessMemory (Under step P) r
part-under P step part r p comes = due-comes (Under step P) (under step part) r (λ s is. (part, p, is)) comes

memory-part : {A : Type 0} (P : Outcome A → Type 0) (r : Outcome A) → Comes r (Err OutOfMemory) → UnlessMemory P r
memory-part P (Ok x) comes = absurd (cc)
memory-part P (Err OutOfMemory) comes = comes
memory-part P (Err (Bad path kind)) comes = absurd (cc)
memory-part P (Err (File path)) comes = absurd (cc)

-- what may come of a part may come of it as a part of the whole
pub comes-part : {A : Type 0} (P : Outcome A → Type 0) (step : List ℕ) (part r : Outcome A) → UnlessMemory P part → Comes r (under step part) → UnlessMemory (Under step P) r
comes-part P step (Ok x) r p comes = part-under P step (Ok x) r p comes
comes-part P step (Err OutOfMemory) r p comes = memory-part (Under step P) r comes
comes-part P step (Err (Bad path kind)) r p comes = part-under P step (Err (Bad path kind)) r p comes
comes-part P step (Err (File path)) r p comes = part-under P step (Err (File path)) r p comes

kind-scalar : (instants : Instants) (shapes : List Shape) (place : Place) (k : Kind) (text : List ℕ) (r : Outcome Typed)
    → is_structure k ≡ false → is_map k ≡ false → is_list k ≡ false → r ≡ scalar_of instants k text → IsKindValue instants shapes place k text r
kind-scalar instants shapes place kind.Structure text r structure map list is = absurd (cc)
kind-scalar instants shapes place kind.Map text r structure map list is = absurd (cc)
kind-scalar instants shapes place kind.List text r structure map list is = absurd (cc)
kind-scalar instants shapes place kind.Str text r structure map list is = is
kind-scalar instants shapes place kind.Integer text r structure map list is = is
kind-scalar instants shapes place kind.Long text r structure map list is = is
kind-scalar instants shapes place kind.Float text r structure map list is = is
kind-scalar instants shapes place kind.Double text r structure map list is = is
kind-scalar instants shapes place kind.Boolean text r structure map list is = is
kind-scalar instants shapes place kind.Blob text r structure map list is = is
kind-scalar instants shapes place kind.Timestamp text r structure map list is = is

module _ (instants : Instants) (shapes : List Shape) (place : Place) (shape : Shape) (at : Some shape ≡ slice_get shapes place.shape.0) (text : List ℕ) where
  pub scalar-comes : (r : Outcome Typed) → takes_json place shape ≡ false → is_structure shape.kind ≡ false → is_map shape.kind ≡ false → is_list shape.kind ≡ false
      → Comes r (scalar_of instants shape.kind text) → UnlessMemory (IsTextValue instants shapes place text) r
  scalar-comes r takes structure map list comes =
      due-comes (IsTextValue instants shapes place text) (scalar_of instants shape.kind text) r
      (λ s is. subst (λ o. IsValueAt instants shapes place o text s) at
      (subst (λ b. MatchBool b (IsAnyDocument text s) (IsKindValue instants shapes place shape.kind text s)) (sym takes)
      (kind-scalar instants shapes place shape.kind text s structure map list is))) comes

-- Elements.

next-more : (v : Typed) (r : Outcome (List Typed)) → Next r (λ vs whole. whole ≡ Ok (v ∷ vs)) (r >>= (λ vs. Ok (v ∷ vs)))
next-more v (Ok vs) = refl
next-more v (Err fault) = refl

module _ (instants : Instants) (shapes : List Shape) (item : Option ShapeId) where
  -- with what was read in front, what the texts left give is what all give
  abbrev pub Goes : List Typed → List (List ℕ) → List (List ℕ) → Type 0
  Goes made rest texts = (r : Outcome (List Typed)) → AreElements instants shapes item (length made) rest r → AreElements instants shapes item 0 texts (with_front made r)

  pub goes-begin : (texts : List (List ℕ)) → Goes [] texts texts
  goes-begin texts r are = subst (AreElements instants shapes item 0 texts) (sym (nothing_in_front r)) are

  pub goes-more : (made : List Typed) (t : List ℕ) (rest texts : List (List ℕ)) (v : Typed) → Under (to_item (length made)) (IsElement instants shapes item t) (Ok v)
      → (length (made ++ v ∷ []) ≡ length made + 1) → Goes made (t ∷ rest) texts → Goes (made ++ v ∷ []) rest texts
  goes-more made t rest texts v is longer goes r are =
      let others = subst (λ n. AreElements instants shapes item n rest r) longer are in
      subst (AreElements instants shapes item 0 texts) (one_more made v r) (goes (r >>= (λ vs. Ok (v ∷ vs))) (Ok v, is, (r, others, next-more v r)))

  pub goes-fails : (made : List Typed) (t : List ℕ) (rest texts : List (List ℕ)) (fault : ArgFault) → Under (to_item (length made)) (IsElement instants shapes item t) (Err fault)
      → Goes made (t ∷ rest) texts → AreElements instants shapes item 0 texts (Err fault)
  goes-fails made t rest texts fault is goes = goes (Err fault) (Err fault, is, refl)

  pub goes-done : (made : List Typed) (texts : List (List ℕ)) → Goes made [] texts → AreElements instants shapes item 0 texts (Ok (made ++ []))
  goes-done made texts goes = goes (Ok []) refl

module _ (instants : Instants) (shapes : List Shape) (shape : Shape) (texts : List (List ℕ)) (flat : holds_lists shapes shape ≡ false) where
  abbrev Whole : Outcome Typed → Type 0
  Whole r = Then (AreElements instants shapes shape.item 0 texts) (λ vs whole. whole ≡ Ok (typed.Items vs)) r

  list-of : (r : Outcome Typed) → Whole r → IsListValue instants shapes shape texts r
  list-of r whole = subst (λ b. MatchBool b (r ≡ Err (here NeedsJson)) (Whole r)) (sym flat) whole

  pub list-fails : (fault : ArgFault) → AreElements instants shapes shape.item 0 texts (Err fault) → IsListValue instants shapes shape texts (Err fault)
  list-fails fault are = list-of (Err fault) (Err fault, are, refl)

  pub list-done : (made vs : List Typed) → made ≡ vs → AreElements instants shapes shape.item 0 texts (Ok vs) → IsListValue instants shapes shape texts (Ok (typed.Items made))
  list-done made vs is are = list-of (Ok (typed.Items made)) (Ok vs, are, ap (λ xs. Ok (typed.Items xs)) is)

-- One text where a list stands.

weaker : {A : Type 0} (P Q : Outcome A → Type 0) (r : Outcome A) → ((s : Outcome A) → P s → Q s) → UnlessMemory P r → UnlessMemory Q r
weaker P Q (Ok x) f p = f (Ok x) p
weaker P Q (Err fault) f p = unless-map (is_memory fault) (f (Err fault)) p

module _ (instants : Instants) (shapes : List Shape) (place : Place) (shape : Shape) (text : List ℕ) where
  pub sole-json : (r : Outcome Typed) → begins_with 91 text ≡ true → UnlessMemory (IsJsonValue instants shapes place text) r → UnlessMemory (IsSoleValue instants shapes place shape text) r
  sole-json r begins due =
      weaker (IsJsonValue instants shapes place text) (IsSoleValue instants shapes place shape text) r
      (λ s p. subst (λ b. MatchBool b (IsJsonValue instants shapes place text s) (IsListValue instants shapes shape (text ∷ []) s)) (sym begins) p) due

  pub sole-list : (r : Outcome Typed) (texts : List (List ℕ)) → begins_with 91 text ≡ false → texts ≡ text ∷ [] → UnlessMemory (IsListValue instants shapes shape texts) r
      → UnlessMemory (IsSoleValue instants shapes place shape text) r
  sole-list r texts begins is due =
      weaker (IsListValue instants shapes shape texts) (IsSoleValue instants shapes place shape text) r
      (λ s p. subst (λ b. MatchBool b (IsJsonValue instants shapes place text s) (IsListValue instants shapes shape (text ∷ []) s)) (sym begins)
      (subst (λ ts. IsListValue instants shapes shape ts s) is p)) due
