-- A value fits exactly where it has no faults: the test says whether the list of faults is empty.
use Rattle.std.proofs.Common.{◌≡◌, ℕ, suc, ◌+◌, Bool, true, false, ◌&&◌, ◌||◌, if◌then◌else◌, List, [], ◌∷◌, ◌++◌, map, length, slice_get, Option, None, Some, refl, sym, ap, ◌∙◌, subst}
use Rattle.std.specs.Prelude.{ℤ, pos, int_le, bytes_eq, IsTrue}
use Rattle.std.specs.List.{flat_map, list_all}
use Rattle.service_model.specs.declared.shape.Member.{Member}
use Rattle.service_model.specs.declared.shape.Shape.{Shape}
use Rattle.service_model.specs.declared.shape.ShapeId.{ShapeId}
use Rattle.texts.specs.declared.pairs.Pair.{Pair}
use Rattle.typed_value.specs.declared.fault.ValueFault.{ValueFault}
use Rattle.typed_value.specs.declared.fault.ValueFault.TheVariants.{Missing, WrongType, Short, Small, Union}
use Rattle.typed_value.specs.declared.typed.Typed.{Typed, map-Typed, roll-Typed}
use Rattle.typed_value.specs.declared.typed.Typed.TheOpen.{Typed-F}
use Rattle.typed_value.specs.declared.typed.Typed.TheFolds.{fold-roll-Typed, ind-Typed}
use Rattle.typed_value.specs.declared.wanted.Wanted.{Wanted}
use Rattle.typed_value.specs.Faults.{Judge, short_faults, small_faults, item_faults, items_faults, union_faults, missing_faults, unknown_faults, member_faults, structure_faults, inside_faults, shape_faults, faults_step, faults_where, faults_of}
use Rattle.typed_value.specs.Fits.{Test, has_one, has_key, item_fits, member_fits, structure_fits, inside_fits, shape_fits, fits_step, fits_where, fits_of}
use Rattle.typed_value.specs.Kinds.{takes, is_map, is_enough}
use Rattle.typed_value.specs.Paths.{below, item_path, shown}
use Rattle.typed_value.specs.Places.{of_shape, of_member, member_named}

abbrev none : List ValueFault → Bool
none [] = true
none (f ∷ fs) = false

none-append : (fs gs : List ValueFault) → none (fs ++ gs) ≡ (none fs && none gs)
none-append [] gs = refl
none-append (f ∷ fs) gs = refl

none-if : (b : Bool) (f : ValueFault) → none (if b then [] else f ∷ []) ≡ b
none-if true f = refl
none-if false f = refl

none-when : (b c : Bool) (fs : List ValueFault) (f : ValueFault) → c ≡ none fs → (b && c) ≡ none (if b then fs else f ∷ [])
none-when true c fs f e = e
none-when false c fs f e = refl

none-either : (b x y : Bool) (fs gs : List ValueFault) → x ≡ none fs → y ≡ none gs → (if b then x else y) ≡ none (if b then fs else gs)
none-either true x y fs gs e d = e
none-either false x y fs gs e d = d

empty : (fs : List ValueFault) → none fs ≡ true → fs ≡ []
empty [] e = refl
empty (f ∷ fs) e = absurd (cc)

swap : (a b c d : Bool) → ((a && b) && (c && d)) ≡ ((a && c) && (b && d))
swap true true true d = refl
swap true true false d = refl
swap true false true d = refl
swap true false false d = refl
swap false b c d = refl

regroup : (a b c d : Bool) → (a && (b && (c && d))) ≡ (((a && b) && c) && d)
regroup true true true d = refl
regroup true true false d = refl
regroup true false c d = refl
regroup false b c d = refl

none-four : (us rs ns ms : List ValueFault) → none (us ++ rs ++ ns ++ ms) ≡ (((none us && none rs) && none ns) && none ms)
none-four us rs ns ms =
    none-append (us ++ rs ++ ns) ms
    ∙ ap (λ b. b && none ms) (none-append (us ++ rs) ns ∙ ap (λ b. b && none ns) (none-append us rs))

four : (a b c : Bool) (us rs ns ms : List ValueFault) → a ≡ none us → b ≡ none rs → c ≡ (none ns && none ms) → (a && (b && c)) ≡ none (us ++ rs ++ ns ++ ms)
four a b c us rs ns ms u r x =
    ap (λ d. d && (b && c)) u ∙ ap (λ d. none us && (d && c)) r ∙ ap (λ d. none us && (none rs && d)) x
    ∙ regroup (none us) (none rs) (none ns) (none ms) ∙ sym (none-four us rs ns ms)

short-same : (o : Option ℤ) (path : List ℕ) (n : ℕ) → is_enough o (pos n) ≡ none (short_faults o path n)
short-same None path n = refl
short-same (Some least) path n = sym (none-if (int_le least (pos n)) (Short (shown path) n least))

small-same : (o : Option ℤ) (path : List ℕ) (n : ℤ) → is_enough o n ≡ none (small_faults o path n)
small-same None path n = refl
small-same (Some least) path n = sym (none-if (int_le least n) (Small (shown path) n least))

module _ (shapes : List Shape) where
  abbrev Agrees : Typed → Type 0
  Agrees v = (w : Wanted) (path : List ℕ) → fits_where shapes v w ≡ none (faults_where shapes v w path)

  abbrev Known : Type 0
  Known = (v : Typed) × Agrees v

  abbrev test_of : Known → Test
  test_of k = fits_where shapes k.0

  abbrev judge_of : Known → Judge
  judge_of k = faults_where shapes k.0

  abbrev tested : Pair Known → Pair Test
  tested p = record { key = p.key; value = test_of p.value }

  abbrev judged : Pair Known → Pair Judge
  judged p = record { key = p.key; value = judge_of p.value }

  item : (id : Option ShapeId) (k : Known) (path : List ℕ) → item_fits id (test_of k) ≡ none (item_faults id path (judge_of k))
  item None k path = refl
  item (Some id) k path = k.1 (of_shape id) path

  items : (id : Option ShapeId) (ks : List Known) (path : List ℕ) (n : ℕ) → list_all (item_fits id) (map test_of ks) ≡ none (items_faults id path n (map judge_of ks))
  items id [] path n = refl
  items id (k ∷ ks) path n =
      ap (λ b. b && list_all (item_fits id) (map test_of ks)) (item id k (item_path path n))
      ∙ ap (λ b. none (item_faults id (item_path path n) (judge_of k)) && b) (items id ks path (n + 1))
      ∙ sym (none-append (item_faults id (item_path path n) (judge_of k)) (items_faults id path (n + 1) (map judge_of ks)))

  entries : (id : Option ShapeId) (ps : List (Pair Known)) (path : List ℕ)
      → list_all (λ p. item_fits id p.value) (map tested ps) ≡ none (flat_map (λ p. item_faults id (below path p.key) p.value) (map judged ps))
  entries id [] path = refl
  entries id (p ∷ ps) path =
      ap (λ b. b && list_all (λ q. item_fits id q.value) (map tested ps)) (item id p.value (below path p.key))
      ∙ ap (λ b. none (item_faults id (below path p.key) (judge_of p.value)) && b) (entries id ps path)
      ∙ sym (none-append (item_faults id (below path p.key) (judge_of p.value)) (flat_map (λ q. item_faults id (below path q.key) q.value) (map judged ps)))

  member : (m : Option Member) (k : Known) (id : ShapeId) (path inside name : List ℕ)
      → member_fits m (test_of k) ≡ (none (unknown_faults id path name m) && none (member_faults inside (judge_of k) m))
  member None k id path inside name = refl
  member (Some m) k id path inside name = k.1 (of_member m) inside

  members : (ms : List Member) (id : ShapeId) (ps : List (Pair Known)) (path : List ℕ)
      → list_all (λ p. member_fits (member_named p.key ms) p.value) (map tested ps)
      ≡ (none (flat_map (λ p. unknown_faults id path p.key (member_named p.key ms)) (map judged ps))
      && none (flat_map (λ p. member_faults (below path p.key) p.value (member_named p.key ms)) (map judged ps)))
  members ms id [] path = refl
  members ms id (p ∷ ps) path =
      let m = member_named p.key ms in
      let u = unknown_faults id path p.key m in
      let f = member_faults (below path p.key) (judge_of p.value) m in
      let us = flat_map (λ q. unknown_faults id path q.key (member_named q.key ms)) (map judged ps) in
      let fs = flat_map (λ q. member_faults (below path q.key) q.value (member_named q.key ms)) (map judged ps) in
      ap (λ b. b && list_all (λ q. member_fits (member_named q.key ms) q.value) (map tested ps)) (member m p.value id path (below path p.key) p.key)
      ∙ ap (λ b. (none u && none f) && b) (members ms id ps path)
      ∙ swap (none u) (none f) (none us) (none fs)
      ∙ ap (λ b. b && (none f && none fs)) (sym (none-append u us))
      ∙ ap (λ b. none (u ++ us) && b) (sym (none-append f fs))

  keyed : (ps : List (Pair Known)) (name : List ℕ) → has_key (map tested ps) name ≡ has_key (map judged ps) name
  keyed [] name = refl
  keyed (p ∷ ps) name = ap (λ b. bytes_eq p.key name || b) (keyed ps name)

  required : (names : List (List ℕ)) (ps : List (Pair Known)) (path : List ℕ) → list_all (has_key (map tested ps)) names ≡ none (flat_map (missing_faults path (map judged ps)) names)
  required [] ps path = refl
  required (n ∷ ns) ps path =
      ap (λ b. b && list_all (has_key (map tested ps)) ns) (keyed ps n ∙ sym (none-if (has_key (map judged ps) n) (Missing (shown path) n)))
      ∙ ap (λ b. none (missing_faults path (map judged ps) n) && b) (required ns ps path)
      ∙ sym (none-append (missing_faults path (map judged ps) n) (flat_map (missing_faults path (map judged ps)) ns))

  as_many : {A B C : Type 0} (f : A → B) (g : A → C) (xs : List A) → length (map f xs) ≡ length (map g xs)
  as_many f g [] = refl
  as_many f g (x ∷ xs) = ap suc (as_many f g xs)

  structure : (id : ShapeId) (shape : Shape) (path : List ℕ) (ps : List (Pair Known)) → structure_fits shape (map tested ps) ≡ none (structure_faults id shape path (map judged ps))
  structure id shape path ps =
      let one = ap (has_one shape) (as_many tested judged ps) ∙ sym (none-if (has_one shape (length (map judged ps))) (Union (shown path))) in
      four (has_one shape (length (map tested ps))) (list_all (has_key (map tested ps)) shape.required)
      (list_all (λ p. member_fits (member_named p.key shape.members) p.value) (map tested ps))
      (union_faults shape path (length (map judged ps))) (flat_map (missing_faults path (map judged ps)) shape.required)
      (flat_map (λ p. unknown_faults id path p.key (member_named p.key shape.members)) (map judged ps))
      (flat_map (λ p. member_faults (below path p.key) p.value (member_named p.key shape.members)) (map judged ps))
      one (required shape.required ps path) (members shape.members id ps path)

  inside : (id : ShapeId) (shape : Shape) (path : List ℕ) (y : Typed-F Known)
      → inside_fits shape (map-Typed Known Test test_of y) ≡ none (inside_faults id shape path (map-Typed Known Judge judge_of y))
  inside id shape path Typed-F.Null = refl
  inside id shape path (Typed-F.Text t) = short-same shape.min path (length t)
  inside id shape path (Typed-F.Int n) = small-same shape.min path n
  inside id shape path (Typed-F.Number n) = refl
  inside id shape path (Typed-F.Flag flag) = refl
  inside id shape path (Typed-F.Blob bytes) = refl
  inside id shape path (Typed-F.Moment t) = refl
  inside id shape path (Typed-F.Items ks) =
      ap (λ n. is_enough shape.min (pos n) && list_all (item_fits shape.item) (map test_of ks)) (as_many test_of judge_of ks)
      ∙ ap (λ b. b && list_all (item_fits shape.item) (map test_of ks)) (short-same shape.min path (length (map judge_of ks)))
      ∙ ap (λ b. none (short_faults shape.min path (length (map judge_of ks))) && b) (items shape.item ks path 0)
      ∙ sym (none-append (short_faults shape.min path (length (map judge_of ks))) (items_faults shape.item path 0 (map judge_of ks)))
  inside id shape path (Typed-F.Fields ps) =
      none-either (is_map shape.kind) (list_all (λ p. item_fits shape.item p.value) (map tested ps)) (structure_fits shape (map tested ps))
      (flat_map (λ p. item_faults shape.item (below path p.key) p.value) (map judged ps)) (structure_faults id shape path (map judged ps))
      (entries shape.item ps path) (structure id shape path ps)
  inside id shape path (Typed-F.Any doc) = refl

  taken : (is_json : Bool) (shape : Shape) (y : Typed-F Known) → takes is_json shape (map-Typed Known Test test_of y) ≡ takes is_json shape (map-Typed Known Judge judge_of y)
  taken is_json shape Typed-F.Null = refl
  taken is_json shape (Typed-F.Text t) = refl
  taken is_json shape (Typed-F.Int n) = refl
  taken is_json shape (Typed-F.Number n) = refl
  taken is_json shape (Typed-F.Flag flag) = refl
  taken is_json shape (Typed-F.Blob bytes) = refl
  taken is_json shape (Typed-F.Moment t) = refl
  taken is_json shape (Typed-F.Items ks) = refl
  taken is_json shape (Typed-F.Fields ps) = refl
  taken is_json shape (Typed-F.Any doc) = refl

  at_shape : (o : Option Shape) (y : Typed-F Known) (w : Wanted) (path : List ℕ)
      → shape_fits o (map-Typed Known Test test_of y) w.is_json ≡ none (shape_faults o (map-Typed Known Judge judge_of y) w path)
  at_shape None y w path = refl
  at_shape (Some shape) y w path =
      ap (λ b. b && inside_fits shape (map-Typed Known Test test_of y)) (taken w.is_json shape y)
      ∙ none-when (takes w.is_json shape (map-Typed Known Judge judge_of y)) (inside_fits shape (map-Typed Known Test test_of y))
      (inside_faults w.shape shape path (map-Typed Known Judge judge_of y)) (WrongType (shown path) shape.kind) (inside w.shape shape path y)

  twice_items : {A : Type 0} (f : Typed → A) (ks : List Known) → map f (map (λ e. e.0) ks) ≡ map (λ e. f e.0) ks
  twice_items f [] = refl
  twice_items f (k ∷ ks) = ap (λ xs. f k.0 ∷ xs) (twice_items f ks)

  abbrev plain : Pair Known → Pair Typed
  plain p = record { key = p.key; value = p.value.0 }

  abbrev onto : {A : Type 0} → (Typed → A) → Pair Typed → Pair A
  onto f p = record { key = p.key; value = f p.value }

  abbrev onto_known : {A : Type 0} → (Typed → A) → Pair Known → Pair A
  onto_known f p = record { key = p.key; value = f p.value.0 }

  twice_fields : {A : Type 0} (f : Typed → A) (ps : List (Pair Known)) → map (onto f) (map plain ps) ≡ map (onto_known f) ps
  twice_fields f [] = refl
  twice_fields f (p ∷ ps) = ap (λ xs. onto_known f p ∷ xs) (twice_fields f ps)

  twice : {A : Type 0} (f : Typed → A) (y : Typed-F Known) → map-Typed Typed A f (map-Typed Known Typed (λ e. e.0) y) ≡ map-Typed Known A (λ e. f e.0) y
  twice f Typed-F.Null = refl
  twice f (Typed-F.Text t) = refl
  twice f (Typed-F.Int n) = refl
  twice f (Typed-F.Number n) = refl
  twice f (Typed-F.Flag flag) = refl
  twice f (Typed-F.Blob bytes) = refl
  twice f (Typed-F.Moment t) = refl
  twice f (Typed-F.Items ks) = ap Typed-F.Items (twice_items f ks)
  twice f (Typed-F.Fields ps) = ap Typed-F.Fields (twice_fields f ps)
  twice f (Typed-F.Any doc) = refl

  layer : (y : Typed-F Known) → Agrees (roll-Typed (map-Typed Known Typed (λ e. e.0) y))
  layer y w path =
      let x = map-Typed Known Typed (λ e. e.0) y in
      ap (λ t. t w) (fold-roll-Typed Test (fits_step shapes) x ∙ ap (fits_step shapes) (twice (fits_where shapes) y))
      ∙ at_shape (slice_get shapes w.shape.0) y w path
      ∙ sym (ap (λ j. none (j w path)) (fold-roll-Typed Judge (faults_step shapes) x ∙ ap (faults_step shapes) (twice (faults_where shapes) y)))

  agrees : (v : Typed) → Agrees v
  agrees = ind-Typed Agrees (λ x y is. subst (λ z. Agrees (roll-Typed z)) is (layer y))

-- the law
pub fits_alone : (shapes : List Shape) (id : ShapeId) (value : Typed)
    → (IsTrue (fits_of shapes id value) → faults_of shapes id value ≡ []) × (faults_of shapes id value ≡ [] → IsTrue (fits_of shapes id value))
fits_alone shapes id value =
    let e = agrees shapes value (of_shape id) [] in
    (λ fits. empty (faults_of shapes id value) (sym e ∙ fits), λ no_faults. e ∙ ap none no_faults)
