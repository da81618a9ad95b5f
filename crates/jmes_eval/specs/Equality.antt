-- Equality of documents ("Equality Operators"): of one kind, with the same value, deep down. In objects
-- the order of the keys doesn't matter.
use Rattle.std.specs.Prelude.{ℕ, ◌==◌, Bool, true, false, ◌&&◌, List, [], ◌∷◌, length, Option, None, Some, bytes_eq}
use Rattle.std.specs.Ordering.{is_eq}
use Rattle.std.specs.List.{list_all, list_any}
use Rattle.json_doc.specs.declared.decimal.Decimal.{Decimal}
use Rattle.json_doc.specs.declared.doc.Doc.{Doc}
use Rattle.json_doc.specs.declared.doc.Doc.TheOpen.{Doc-F}
use Rattle.json_doc.specs.declared.doc.Doc.TheViews.{out-Doc}
use Rattle.json_doc.specs.declared.doc.Doc.TheFolds.{fold-Doc}
use Rattle.texts.specs.declared.pairs.Pair.{Pair}
use Rattle.json_doc.specs.DecimalValue.{value_cmp}
use Rattle.texts.specs.Keys.{value_at}

-- whether a document is the one that the test is for
abbrev pub Test : Type 0
Test = Doc → Bool

abbrev pub is_null_too : Doc-F Doc → Bool
is_null_too Doc-F.Null = true
is_null_too others = false

abbrev pub is_flag : Bool → Doc-F Doc → Bool
is_flag true (Doc-F.Flag flag) = flag
is_flag false (Doc-F.Flag true) = false
is_flag false (Doc-F.Flag false) = true
is_flag flag others = false

abbrev pub is_number : Decimal → Doc-F Doc → Bool
is_number n (Doc-F.Number m) = is_eq (value_cmp n m)
is_number n others = false

abbrev pub is_text : List ℕ → Doc-F Doc → Bool
is_text t (Doc-F.Str u) = bytes_eq t u
is_text t others = false

-- each test holds of the document in its place
abbrev pub each_same : List Test → List Doc → Bool
each_same [] [] = true
each_same (t ∷ ts) (d ∷ ds) = t d && each_same ts ds
each_same ts ds = false

abbrev pub are_items : List Test → Doc-F Doc → Bool
are_items ts (Doc-F.Items ds) = each_same ts ds
are_items ts others = false

abbrev pub holds_of : Test → Option Doc → Bool
holds_of t None = false
holds_of t (Some d) = t d

-- the test holds of the value at its key
abbrev pub has_field : List (Pair Doc) → Pair Test → Bool
has_field ds p = holds_of p.value (value_at p.key ds)

-- as many pairs, and each test holds at its key: keys are distinct
abbrev pub are_fields : List (Pair Test) → Doc-F Doc → Bool
are_fields ps (Doc-F.Fields ds) = length ps == length ds && list_all (has_field ds) ps
are_fields ps others = false

abbrev pub same_step : Doc-F Test → Doc → Bool
same_step Doc-F.Null d = is_null_too (out-Doc d)
same_step (Doc-F.Flag flag) d = is_flag flag (out-Doc d)
same_step (Doc-F.Number n) d = is_number n (out-Doc d)
same_step (Doc-F.Str t) d = is_text t (out-Doc d)
same_step (Doc-F.Items ts) d = are_items ts (out-Doc d)
same_step (Doc-F.Fields ps) d = are_fields ps (out-Doc d)

abbrev pub same : Doc → Test
same = fold-Doc Test same_step

-- the pair has an equal one among these
abbrev pub has_doc_field : List (Pair Doc) → Pair Doc → Bool
has_doc_field ds p = holds_of (same p.value) (value_at p.key ds)

-- some element equals the value
abbrev pub contains_item : List Doc → Doc → Bool
contains_item ds x = list_any (λ d. same d x) ds
