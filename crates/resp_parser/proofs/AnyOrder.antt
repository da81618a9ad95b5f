-- The members of a structure in any order give the same.
use Rattle.std.proofs.Common.{◌≡◌, ℕ, true, false, not, ◌||◌, if◌then◌else◌, List, [], ◌∷◌, ◌++◌, Option, None, Some, refl, sym, ap, ◌∙◌}
use Rattle.std.specs.Prelude.{slice_get, option_map, IsPermutation}
use Rattle.json_doc.specs.declared.doc.Doc as doc
use Rattle.json_doc.specs.declared.doc.Doc.{Doc}
use Rattle.json_doc.specs.declared.doc.Doc.TheOpen.{Doc-F}
use Rattle.service_model.specs.declared.shape.Kind.TheVariants.{Structure}
use Rattle.service_model.specs.declared.shape.Member.{Member}
use Rattle.service_model.specs.declared.shape.Shape.{Shape}
use Rattle.service_model.specs.declared.shape.ShapeId.{ShapeId}
use Rattle.texts.specs.declared.pairs.Pair.{Pair}
use Rattle.texts.specs.Keys.{keys, value_at, IsDistinct}
use Rattle.resp_parser.specs.FirstFault.{Judge, fault_of, judge_of, kind_fault, member_fault, members_fault, structure_fault}
use Rattle.resp_parser.specs.Kept.{Keep, entry_of, fields_kept, kept_of, known_members, structure_kept, unknown_tag, with_values}
use Rattle.resp_parser.specs.Kinds.{is_list, is_map, is_null, is_structure, passes}
use Rattle.resp_parser.specs.Laws.{OrderIsFree}
use Rattle.resp_parser.specs.Paths.{first_of}
use Rattle.resp_parser.proofs.Due.{fault-view, kept-view}
use Rattle.resp_parser.proofs.Keyed.{at-with}
use Rattle.resp_parser.proofs.Layers.{out-Fields}
use Rattle.resp_parser.proofs.Permuted.{at-permuted, tag-permuted}
use Rattle.resp_parser.proofs.Tags.{tag-judged, tag-kept}

module _ (shapes : List Shape) (ps qs : List (Pair Doc)) (distinct : IsDistinct (keys ps)) (permuted : IsPermutation ps qs) where
  same-at : {Y : Type 0} (f : Doc → Y) (k : List ℕ) → value_at k (with_values f ps) ≡ value_at k (with_values f qs)
  same-at f k = at-with f k ps ∙ ap (option_map f) (at-permuted k ps qs distinct permuted) ∙ sym (at-with f k qs)

  same-members : (ms : List Member) → known_members ms (with_values (kept_of shapes) ps) ≡ known_members ms (with_values (kept_of shapes) qs)
  same-members [] = refl
  same-members (m ∷ ms) =
      ap (λ o. entry_of m o ++ known_members ms (with_values (kept_of shapes) ps)) (same-at (kept_of shapes) m.wire)
      ∙ ap (λ rest. entry_of m (value_at m.wire (with_values (kept_of shapes) qs)) ++ rest) (same-members ms)

  same-faults : (ms : List Member) → members_fault (with_values (judge_of shapes) ps) ms ≡ members_fault (with_values (judge_of shapes) qs) ms
  same-faults [] = refl
  same-faults (m ∷ ms) =
      ap (λ o. first_of (member_fault m o) (members_fault (with_values (judge_of shapes) ps) ms)) (same-at (judge_of shapes) m.wire)
      ∙ ap (λ rest. first_of (member_fault m (value_at m.wire (with_values (judge_of shapes) qs))) rest) (same-faults ms)

  module _ (shape : Shape) where
    kept-tag : unknown_tag (λ keep. is_null (keep None)) shape (with_values (kept_of shapes) ps) ≡ unknown_tag (λ keep. is_null (keep None)) shape (with_values (kept_of shapes) qs)
    kept-tag = tag-kept shapes shape ps ∙ tag-permuted is_null shape ps qs permuted ∙ sym (tag-kept shapes shape qs)

    judged-tag : unknown_tag (λ judge. judge.is_null) shape (with_values (judge_of shapes) ps) ≡ unknown_tag (λ judge. judge.is_null) shape (with_values (judge_of shapes) qs)
    judged-tag = tag-judged shapes shape ps ∙ tag-permuted is_null shape ps qs permuted ∙ sym (tag-judged shapes shape qs)

    same-kept : (tag : Option (List ℕ)) → structure_kept shape (with_values (kept_of shapes) ps) tag ≡ structure_kept shape (with_values (kept_of shapes) qs) tag
    same-kept None = ap doc.Fields (same-members shape.members)
    same-kept (Some tag) = refl

    same-fault : (tag : Option (List ℕ)) → structure_fault shape (with_values (judge_of shapes) ps) tag ≡ structure_fault shape (with_values (judge_of shapes) qs) tag
    same-fault None = same-faults shape.members
    same-fault (Some tag) = refl

    module _ (id : ShapeId) (at : slice_get shapes id.0 ≡ Some shape) (kind : shape.kind ≡ Structure) (plain : shape.document ≡ false) where
      no-map : is_map shape.kind ≡ false
      no-map = ap is_map kind

      not-passed : passes shape ≡ false
      not-passed = ap (λ b. b || not (is_structure shape.kind || (is_list shape.kind || is_map shape.kind))) plain ∙ ap (λ k. not (is_structure k || (is_list k || is_map k))) kind

      fields-kept : (rs : List (Pair Keep)) → fields_kept shape rs ≡ structure_kept shape rs (unknown_tag (λ keep. is_null (keep None)) shape rs)
      fields-kept rs =
          ap (λ b. if b then doc.Fields (with_values (λ (keep : Keep). keep shape.item) rs) else structure_kept shape rs (unknown_tag (λ keep. is_null (keep None)) shape rs)) no-map

      pub kept-same : kept_of shapes (doc.Fields ps) (Some id) ≡ kept_of shapes (doc.Fields qs) (Some id)
      kept-same =
          kept-view shapes id shape at (doc.Fields ps) (Doc-F.Fields ps) (out-Fields ps) not-passed
          ∙ fields-kept (with_values (kept_of shapes) ps)
          ∙ ap (structure_kept shape (with_values (kept_of shapes) ps)) kept-tag
          ∙ same-kept (unknown_tag (λ keep. is_null (keep None)) shape (with_values (kept_of shapes) qs))
          ∙ sym (fields-kept (with_values (kept_of shapes) qs))
          ∙ sym (kept-view shapes id shape at (doc.Fields qs) (Doc-F.Fields qs) (out-Fields qs) not-passed)

      kind-right : (is_structure shape.kind || is_map shape.kind) ≡ true
      kind-right = ap (λ k. is_structure k || is_map k) kind

      fields-judged : (rs : List (Pair Judge)) → kind_fault shape (Doc-F.Fields rs) ≡ structure_fault shape rs (unknown_tag (λ judge. judge.is_null) shape rs)
      fields-judged rs = rw (not-passed, kind-right, no-map) refl

      pub fault-same : fault_of shapes (doc.Fields ps) id ≡ fault_of shapes (doc.Fields qs) id
      fault-same =
          fault-view shapes id shape at (doc.Fields ps) (Doc-F.Fields ps) (out-Fields ps)
          ∙ fields-judged (with_values (judge_of shapes) ps)
          ∙ ap (structure_fault shape (with_values (judge_of shapes) ps)) judged-tag
          ∙ same-fault (unknown_tag (λ judge. judge.is_null) shape (with_values (judge_of shapes) qs))
          ∙ sym (fields-judged (with_values (judge_of shapes) qs))
          ∙ sym (fault-view shapes id shape at (doc.Fields qs) (Doc-F.Fields qs) (out-Fields qs))

pub any_order : OrderIsFree
any_order shapes shape id ps qs at kind plain distinct permuted =
    (fault-same shapes ps qs distinct permuted shape id at kind plain, kept-same shapes ps qs distinct permuted shape id at kind plain)
