use Rattle.std.proofs.Common.{nat_eq, sym, ap, subst, ◌∙◌}
use Rattle.std.specs.Cmp.Lexicographic.{pointwise}
use Rattle.indexmap.specs.IndexMap.{insert_entry}
use Rattle.texts.specs.Keys.{keys, IsDistinct}
use Rattle.service_model.proofs.Numbers.{names_go}
use Rattle.service_model.proofs.numbering.number_shapes.Goals as goal

pub loop-pair-preserved : goal.loop-pair-preserved
loop-pair-preserved c =
    let distinct = subst (λ ps. IsDistinct (keys ps)) (sym c.as_slice-pair-items.ensures.same) c.as_slice-pair-items.ensures.distinct in
    names_go c.as_slice-pair-items.result.now c.loop-pair.pair-index c.pair-item.result c.loop-pair.names.entries c.insert.new.self.entries c.in_ok-outline.outline
    c.loop-pair-test.true c.pair-item.is distinct c.loop-pair.invariant c.in_ok-outline.ensures
    (c.in_ok-insert.ensures.entries ∙ ap (λ k. insert_entry (pointwise nat_eq) c.loop-pair.names.entries k c.in_ok-outline.outline) c.in_ok-copy.ensures)
