-- One member more of a structure.
use Rattle.std.proofs.Common.{◌≡◌, ℕ, zero, suc, max, ◌+◌, ◌<◌, ◌≤◌, Bool, true, false, if◌then◌else◌, List, [], ◌∷◌, ◌++◌, length, get_or, set, take, drop, Option, None, Some, refl, sym, ap, subst, ◌∙◌, append_assoc, arith}
use denote.Param.Weighed.{most}
use Rattle.std.specs.Prelude.{slice_get, bytes_eq, option_map}
use Rattle.std.specs.List.{flat_map}
use Rattle.std.proofs.lemmas.List.{drop_more, drop-set-lt, get_or-drop, drop-drop}
use Rattle.json_doc.specs.declared.doc.Doc.{Doc, out-Doc, size-Doc}
use Rattle.json_doc.specs.declared.doc.Doc.TheOpen.{Doc-F}
use Rattle.json_doc.specs.declared.doc.Doc.TheFolds.{fold_out-Doc}
use Rattle.service_model.specs.declared.shape.Member.{Member}
use Rattle.service_model.specs.declared.shape.Shape.{Shape}
use Rattle.service_model.specs.declared.shape.ShapeId.{ShapeId}
use Rattle.texts.specs.declared.pairs.Pair.{Pair}
use Rattle.texts.specs.Keys.{value_at}
use Rattle.resp_parser.specs.FirstFault.{Judge, fault_of, judge_of, judge_step, kind_fault, member_fault, members_fault, shape_fault}
use Rattle.resp_parser.specs.Headers.{unless_null}
use Rattle.resp_parser.specs.Kept.{Keep, entry_of, kept_of, known_members, pair_of, with_values}
use Rattle.resp_parser.specs.Kinds.{is_null, is_null_view, passes}
use Rattle.resp_parser.specs.Paths.{Path, first_of, to_name, under}
use Rattle.resp_parser.specs.Inside.{there, values_of}
use Rattle.resp_parser.proofs.Due.{judged}
use Rattle.resp_parser.proofs.Keyed.{at-with}
use Rattle.resp_parser.proofs.Names.{next-drop}
use Rattle.resp_parser.proofs.Nulls.{null-kept}

-- ---- values

module _ (members : List Member) (ps : List (Pair Doc)) (values : List (Option Doc)) (i : ℕ) (m : Member) (within : i < length members) (at : m ≡ get_or members i m)
    (same : drop i values ≡ drop i (values_of members ps)) where
  zero-plus : i + 0 ≡ i
  zero-plus = omega arith

  head-is : (xs : List Member) → drop i members ≡ m ∷ xs → drop i (values_of members ps) ≡ value_at m.wire ps ∷ values_of xs ps
  head-is xs e = drop-values i members ∙ ap (λ ys. values_of ys ps) e
    where
      drop-values : (n : ℕ) (ys : List Member) → drop n (values_of ys ps) ≡ values_of (drop n ys) ps
      drop-values zero ys = refl
      drop-values (suc n) [] = refl
      drop-values (suc n) (y ∷ ys) = drop-values n ys

  pub value-read : (o : Option Doc) → o ≡ get_or values i o → o ≡ value_at m.wire ps
  value-read o read =
      read ∙ ap (λ n. get_or values n o) (sym zero-plus) ∙ sym (get_or-drop i values 0 o)
      ∙ ap (λ xs. get_or xs 0 o) (same ∙ head-is (drop (i + 1) members) (next-drop members i m within at))

  pub values-left : (z : Option Doc) → drop (i + 1) (set values i z) ≡ drop (i + 1) (values_of members ps)
  values-left z =
      drop-set-lt (i + 1) values i z (omega arith) ∙ sym (drop-drop 1 i values) ∙ ap (drop 1) same ∙ drop-drop 1 i (values_of members ps)

sized : (p : Pair Doc) (d : Doc) (b : Bool) (o : Option Doc) (n : ℕ) → (if b then Some p.value else o) ≡ Some d → (o ≡ Some d → size-Doc d ≤ n) → size-Doc d ≤ max (size-Doc p.value) n
sized p d true o n e others = let inner : p.value ≡ d = cc in let same : size-Doc p.value ≡ size-Doc d = ap size-Doc inner in omega arith
sized p d false o n e others = let small = others e in omega arith

-- a value that is found is no deeper than the deepest
pub size-found : (key : List ℕ) (ps : List (Pair Doc)) (d : Doc) → value_at key ps ≡ Some d → size-Doc d ≤ most (λ p. size-Doc p.value) ps
size-found key [] d e = absurd (cc)
size-found key (p ∷ ps) d e = sized p d (bytes_eq p.key key) (value_at key ps) (most (λ q. size-Doc q.value) ps) e (λ f. size-found key ps d f)

-- ---- what is there

pub there-value : (o : Option Doc) (d : Doc) → there o ≡ Some d → o ≡ Some d
there-value None d e = absurd (cc)
there-value (Some x) d e = by (is_null x) e
  where
    by : (b : Bool) → (if b then None else Some x) ≡ Some d → Some x ≡ Some d
    by true f = absurd (cc)
    by false f = f

there-null : (o : Option Doc) (d : Doc) → there o ≡ Some d → is_null d ≡ false
there-null None d e = absurd (cc)
there-null (Some x) d e = by (is_null x) refl e
  where
    by : (b : Bool) → is_null x ≡ b → (if b then None else Some x) ≡ Some d → is_null d ≡ false
    by true is f = absurd (cc)
    by false is f = let same : x ≡ d = cc in ap is_null (sym same) ∙ is

none-null : (x : Doc) → there (Some x) ≡ None → is_null x ≡ true
none-null x e = by (is_null x) refl e
  where
    by : (b : Bool) → is_null x ≡ b → (if b then None else Some x) ≡ None → is_null x ≡ true
    by true is f = is
    by false is f = absurd (cc)

module _ (shapes : List Shape) where
  abbrev J : Doc → Judge
  J = judge_of shapes

  abbrev K : Doc → Keep
  K = kept_of shapes

  same_either : (b : Bool) → if◌then◌else◌ {A = Option Path} b None None ≡ None
  same_either true = refl
  same_either false = refl

  null-layer : (x : Doc-F Doc) (o : Option Shape) → is_null_view x ≡ true → shape_fault (judged shapes x) o ≡ None
  null-layer x None e = refl
  null-layer Doc-F.Null (Some shape) e = same_either (passes shape)
  null-layer (Doc-F.Flag flag) (Some shape) e = absurd (cc)
  null-layer (Doc-F.Number n) (Some shape) e = absurd (cc)
  null-layer (Doc-F.Str t) (Some shape) e = absurd (cc)
  null-layer (Doc-F.Items ds) (Some shape) e = absurd (cc)
  null-layer (Doc-F.Fields ps) (Some shape) e = absurd (cc)

  null-fault : (d : Doc) (id : ShapeId) → is_null d ≡ true → fault_of shapes d id ≡ None
  null-fault d id e =
      ap (λ j. j.fault (Some id)) (fold_out-Doc Judge (judge_step shapes) d) ∙ null-layer (out-Doc d) (slice_get shapes id.0) e

  absent-entry : (m : Member) (o : Option Doc) → there o ≡ None → entry_of m (option_map K o) ≡ []
  absent-entry m None e = refl
  absent-entry m (Some d) e =
      ap (λ b. if b then [] else pair_of m.name (K d (Some m.shape)) ∷ []) (null-kept shapes d ∙ none-null d e)

  absent-fault : (m : Member) (o : Option Doc) → there o ≡ None → member_fault m (option_map J o) ≡ None
  absent-fault m None e = refl
  absent-fault m (Some d) e = ap (under (to_name m.name)) (null-fault d m.shape (none-null d e))

  present-entry : (m : Member) (o : Option Doc) (d : Doc) → there o ≡ Some d → entry_of m (option_map K o) ≡ pair_of m.name (K d (Some m.shape)) ∷ []
  present-entry m o d e =
      ap (λ x. entry_of m (option_map K x)) (there-value o d e)
      ∙ ap (λ b. if b then [] else pair_of m.name (K d (Some m.shape)) ∷ []) (null-kept shapes d ∙ there-null o d e)

  present-fault : (m : Member) (o : Option Doc) (d : Doc) → there o ≡ Some d → member_fault m (option_map J o) ≡ under (to_name m.name) (fault_of shapes d m.shape)
  present-fault m o d e = ap (λ x. member_fault m (option_map J x)) (there-value o d e)

  module _ (members : List Member) (ps : List (Pair Doc)) (i : ℕ) (m : Member) (within : i < length members) (at : m ≡ get_or members i m) where
    abbrev rest : List Member
    rest = drop (i + 1) members

    abbrev value : Option Doc
    value = value_at m.wire ps

    known-next : known_members (drop i members) (with_values K ps) ≡ entry_of m (option_map K value) ++ known_members rest (with_values K ps)
    known-next =
        ap (λ xs. known_members xs (with_values K ps)) (next-drop members i m within at)
        ∙ ap (λ o. entry_of m o ++ known_members rest (with_values K ps)) (at-with K m.wire ps)

    fault-next : members_fault (with_values J ps) (drop i members) ≡ first_of (member_fault m (option_map J value)) (members_fault (with_values J ps) rest)
    fault-next =
        ap (members_fault (with_values J ps)) (next-drop members i m within at)
        ∙ ap (λ o. first_of (member_fault m o) (members_fault (with_values J ps) rest)) (at-with J m.wire ps)

    module _ (made all : List (Pair Doc)) (so_far : made ++ known_members (drop i members) (with_values K ps) ≡ all) where
      pub absent-made : there value ≡ None → made ++ known_members rest (with_values K ps) ≡ all
      absent-made none =
          sym (ap (λ xs. made ++ xs) (known-next ∙ ap (λ xs. xs ++ known_members rest (with_values K ps)) (absent-entry m value none))) ∙ so_far

      pub present-made : (d kept : Doc) → there value ≡ Some d → K d (Some m.shape) ≡ kept → (made ++ pair_of m.name kept ∷ []) ++ known_members rest (with_values K ps) ≡ all
      present-made d kept is same =
          append_assoc made (pair_of m.name kept ∷ []) (known_members rest (with_values K ps))
          ∙ sym (ap (λ xs. made ++ xs) (known-next ∙ ap (λ xs. xs ++ known_members rest (with_values K ps)) (present-entry m value d is ∙ ap (λ x. pair_of m.name x ∷ []) same)))
          ∙ so_far

    module _ (all : Option Path) (so_far : members_fault (with_values J ps) (drop i members) ≡ all) where
      pub absent-passed : there value ≡ None → members_fault (with_values J ps) rest ≡ all
      absent-passed none = sym (fault-next ∙ ap (λ o. first_of o (members_fault (with_values J ps) rest)) (absent-fault m value none)) ∙ so_far

      pub present-passed : (d : Doc) → there value ≡ Some d → fault_of shapes d m.shape ≡ None → members_fault (with_values J ps) rest ≡ all
      present-passed d is none =
          sym (fault-next ∙ ap (λ o. first_of o (members_fault (with_values J ps) rest)) (present-fault m value d is ∙ ap (under (to_name m.name)) none)) ∙ so_far

      pub present-refused : (d : Doc) (path : Path) → there value ≡ Some d → fault_of shapes d m.shape ≡ Some path → all ≡ Some (to_name m.name ++ path)
      present-refused d path is some =
          sym so_far ∙ fault-next ∙ ap (λ o. first_of o (members_fault (with_values J ps) rest)) (present-fault m value d is ∙ ap (under (to_name m.name)) some)
