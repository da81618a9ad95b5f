use Rattle.std.proofs.Common.{◌++◌, sym, ap, subst, ◌∙◌}
use Rattle.texts.specs.Keys.{keys, IsDistinct}
use Rattle.json_doc.specs.Gathered.{pairs_of}
use Rattle.json_doc.proofs.Gathering.{distinct-keys, IsNew-before}
use Rattle.jmes_eval.proofs.merging.gathered.Goals as goal

pub push_new-requires : goal.push_new-requires
push_new-requires c =
    let all = sym c.loop-key.invariant ∙ ap (λ es. c.loop-key.pairs ++ pairs_of es) c.in-Some.ensures.steps in
    IsNew-before _ _ (record { key = c.in-Some.key; value = c.in-Some.value }) (subst (λ ps. IsDistinct (keys ps)) all (distinct-keys c.args.table.entries c.len.ensures.unique))
