use Rattle.std.proofs.Common.{◌++◌, sym, ap, subst, ◌∙◌}
use Rattle.texts.specs.Keys.{keys, IsDistinct}
use Rattle.shorthand.specs.Table.{pairs_of}
use Rattle.shorthand.proofs.Pairs.{table_distinct, new_before}
use Rattle.shorthand.proofs.fields.FieldTable.into_pairs.Goals as goal

pub push_new-requires : goal.push_new-requires
push_new-requires c =
    let all = c.self.view_is ∙ sym c.loop-key.invariant ∙ ap (λ es. c.loop-key.pairs ++ pairs_of es) c.in-Some.ensures.steps in
    new_before _ _ (record { key = c.in-Some.key; value = c.in-Some.value }) (subst (λ ps. IsDistinct (keys ps)) all (table_distinct c.self.inside.map.entries c.len.ensures.unique))
