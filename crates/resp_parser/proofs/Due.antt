-- What is due of a value at a shape, by its outermost layer.
use Rattle.std.proofs.Common.{◌≡◌, ℕ, Bool, true, false, List, [], map, Option, None, Some, Result, Ok, Err, refl, sym, ap, ◌∙◌}
use Rattle.std.specs.Prelude.{slice_get, ◌||◌, if◌then◌else◌}
use Rattle.json_doc.specs.declared.decimal.Decimal.{Decimal}
use Rattle.json_doc.specs.declared.doc.Doc.{Doc, map-Doc, out-Doc}
use Rattle.json_doc.specs.declared.doc.Doc.TheVariants as doc
use Rattle.json_doc.specs.declared.doc.Doc.TheOpen.{Doc-F}
use Rattle.json_doc.specs.declared.doc.Doc.TheFolds.{fold_out-Doc}
use Rattle.service_model.specs.declared.shape.Shape.{Shape}
use Rattle.service_model.specs.declared.shape.ShapeId.{ShapeId}
use Rattle.texts.specs.declared.pairs.Pair.{Pair}
use Rattle.resp_parser.specs.FirstFault.{Judge, fault_of, inside_fault, judge_of, judge_step, kind_fault, shape_fault}
use Rattle.resp_parser.specs.Kept.{Keep, as_it_is, inside_kept, kept_of, shape_kept, wanted_kept, with_values}
use Rattle.resp_parser.specs.Kinds.{passes, has_kind, is_list, is_map, is_structure}
use Rattle.resp_parser.specs.Paths.{Path, unless}
use Rattle.resp_parser.proofs.Layers.{out-Null, out-Flag, out-Number, out-Str, out-Items, out-Fields}
use Rattle.resp_parser.proofs.Unchanged.{unchanged}

abbrev pub judged : List Shape → Doc-F Doc → Doc-F Judge
judged shapes x = map-Doc Doc Judge (judge_of shapes) x

abbrev pub keeps : List Shape → Doc-F Doc → Doc-F Keep
keeps shapes x = map-Doc Doc Keep (kept_of shapes) x

-- a value of any kind has the kind of a shape at which all pass
kind-passes : {X : Type 0} (shape : Shape) (x : Doc-F X) → passes shape ≡ true → has_kind shape x ≡ true
kind-passes shape Doc-F.Null p = refl
kind-passes shape (Doc-F.Flag flag) p = p
kind-passes shape (Doc-F.Number n) p = p
kind-passes shape (Doc-F.Str t) p = p
kind-passes shape (Doc-F.Items xs) p = ap (λ b. b || is_list shape.kind) p
kind-passes shape (Doc-F.Fields ps) p = ap (λ b. b || (is_structure shape.kind || is_map shape.kind)) p

chosen : {A : Type 0} (b : Bool) (x y : A) → b ≡ true → (if b then x else y) ≡ x
chosen b x y e = ap (λ c. if c then x else y) e

other : {A : Type 0} (b : Bool) (x y : A) → b ≡ false → (if b then x else y) ≡ y
other b x y e = ap (λ c. if c then x else y) e

pub fault-none : (shape : Shape) (x : Doc-F Judge) → passes shape ≡ true → kind_fault shape x ≡ None
fault-none shape x p =
    chosen (has_kind shape x) (if passes shape then None else inside_fault shape x) (Some []) (kind-passes shape x p)
    ∙ chosen (passes shape) None (inside_fault shape x) p

module _ (shapes : List Shape) (id : ShapeId) (shape : Shape) (at : slice_get shapes id.0 ≡ Some shape) where
  pub fault-at : (d : Doc) → fault_of shapes d id ≡ kind_fault shape (judged shapes (out-Doc d))
  fault-at d =
      ap (λ j. j.fault (Some id)) (fold_out-Doc Judge (judge_step shapes) d) ∙ ap (shape_fault (judged shapes (out-Doc d))) at

  pub kept-at : (d : Doc) → kept_of shapes d (Some id) ≡ shape_kept (keeps shapes (out-Doc d)) (Some shape)
  kept-at d =
      ap (λ k. k (Some id)) (fold_out-Doc Keep (wanted_kept shapes) d) ∙ ap (shape_kept (keeps shapes (out-Doc d))) at

  pub fault-view : (d : Doc) (x : Doc-F Doc) → out-Doc d ≡ x → fault_of shapes d id ≡ kind_fault shape (judged shapes x)
  fault-view d x e = fault-at d ∙ ap (λ y. kind_fault shape (judged shapes y)) e

  pub kept-view : (d : Doc) (x : Doc-F Doc) → out-Doc d ≡ x → passes shape ≡ false → kept_of shapes d (Some id) ≡ inside_kept shape (keeps shapes x)
  kept-view d x e p =
      kept-at d ∙ ap (λ y. shape_kept (keeps shapes y) (Some shape)) e
      ∙ other (passes shape) (as_it_is (keeps shapes x)) (inside_kept shape (keeps shapes x)) p

  pub kept-passes : (d : Doc) → passes shape ≡ true → kept_of shapes d (Some id) ≡ d
  kept-passes d p =
      kept-at d ∙ chosen (passes shape) (as_it_is (keeps shapes (out-Doc d))) (inside_kept shape (keeps shapes (out-Doc d))) p
      ∙ ap (λ k. k None) (sym (fold_out-Doc Keep (wanted_kept shapes) d)) ∙ unchanged shapes d

  abbrev due : Doc → Result Doc Path
  due d = unless (fault_of shapes d id) (kept_of shapes d (Some id))

  due-view : (d : Doc) (x : Doc-F Doc) → out-Doc d ≡ x → passes shape ≡ false
      → due d ≡ unless (kind_fault shape (judged shapes x)) (inside_kept shape (keeps shapes x))
  due-view d x e p =
      ap (λ o. unless o (kept_of shapes d (Some id))) (fault-view d x e) ∙ ap (unless (kind_fault shape (judged shapes x))) (kept-view d x e p)

  pub due-passes : (d : Doc) → passes shape ≡ true → due d ≡ Ok d
  due-passes d p =
      ap (λ o. unless o (kept_of shapes d (Some id))) (fault-at d ∙ fault-none shape (judged shapes (out-Doc d)) p) ∙ ap Ok (kept-passes d p)

  pub due-null : passes shape ≡ false → due doc.Null ≡ Ok doc.Null
  due-null p =
      due-view doc.Null Doc-F.Null out-Null p ∙ ap (λ o. unless o doc.Null) (other (passes shape) None None p)

  scalar : (b : Bool) (o : Option Path) (d : Doc) → b ≡ false → unless (if b then o else Some []) d ≡ Err []
  scalar b o d p = ap (λ c. unless (if c then o else Some []) d) p

  pub due-flag : (flag : Bool) → passes shape ≡ false → due (doc.Flag flag) ≡ Err []
  due-flag flag p =
      due-view (doc.Flag flag) (Doc-F.Flag flag) (out-Flag flag) p ∙ scalar (passes shape) (if passes shape then None else None) (doc.Flag flag) p

  pub due-number : (n : Decimal) → passes shape ≡ false → due (doc.Number n) ≡ Err []
  due-number n p =
      due-view (doc.Number n) (Doc-F.Number n) (out-Number n) p ∙ scalar (passes shape) (if passes shape then None else None) (doc.Number n) p

  pub due-text : (t : List ℕ) → passes shape ≡ false → due (doc.Str t) ≡ Err []
  due-text t p =
      due-view (doc.Str t) (Doc-F.Str t) (out-Str t) p ∙ scalar (passes shape) (if passes shape then None else None) (doc.Str t) p

  pub due-items : (ds : List Doc) → passes shape ≡ false
      → due (doc.Items ds) ≡ unless (kind_fault shape (Doc-F.Items (map (judge_of shapes) ds))) (inside_kept shape (Doc-F.Items (map (kept_of shapes) ds)))
  due-items ds p = due-view (doc.Items ds) (Doc-F.Items ds) (out-Items ds) p

  pub due-fields : (ps : List (Pair Doc)) → passes shape ≡ false
      → due (doc.Fields ps) ≡ unless (kind_fault shape (Doc-F.Fields (with_values (judge_of shapes) ps))) (inside_kept shape (Doc-F.Fields (with_values (kept_of shapes) ps)))
  due-fields ps p = due-view (doc.Fields ps) (Doc-F.Fields ps) (out-Fields ps) p

-- the fault of a value inside, where its kind is that of the shape or isn't
pub inside-fault : (shape : Shape) (x : Doc-F Judge) → passes shape ≡ false → has_kind shape x ≡ true → kind_fault shape x ≡ inside_fault shape x
inside-fault shape x p k =
    chosen (has_kind shape x) (if passes shape then None else inside_fault shape x) (Some []) k ∙ other (passes shape) None (inside_fault shape x) p

pub wrong-kind : (shape : Shape) (x : Doc-F Judge) → has_kind shape x ≡ false → kind_fault shape x ≡ Some []
wrong-kind shape x k = other (has_kind shape x) (if passes shape then None else inside_fault shape x) (Some []) k
