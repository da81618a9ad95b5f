use Rattle.std.proofs.Common.{◌≡◌, ◌++◌, ◌∷◌, [], sym, ap, subst, ◌∙◌, append_assoc}
use Rattle.std.specs.Vec.Iter.{into_iter_items}
use Rattle.texts.specs.Keys.{keys, IsDistinct}
use Rattle.json_doc.specs.Gathered.{pairs_of}
use Rattle.json_doc.proofs.Gathering.{put_last, IsNew-before}
use Rattle.json_doc.proofs.read_fields.spread.Goals as goal

pub loop-key-preserved : goal.loop-key-preserved
loop-key-preserved c =
    let so_far = pairs_of c.loop-key.map.entries in
    let left = into_iter_items c.next.new.self in
    let all : c.args.pairs ≡ so_far ++ c.in-Some.field-0 ∷ left =
    sym c.loop-key.invariant ∙ ap (λ es. so_far ++ es) c.in-Some.ensures.steps.0 in
    let new = IsNew-before so_far left c.in-Some.field-0 (subst (λ ps. IsDistinct (keys ps)) all c.into_vec-key-items.ensures.distinct) in
    ap (λ ps. ps ++ left) (c.in_ok-put_entry.ensures ∙ put_last so_far c.in-Some.field-0.key c.in-Some.field-0.value new) ∙ append_assoc so_far (c.in-Some.field-0 ∷ []) left ∙ sym all
