use Rattle.std.proofs.Common.{nat_eq, bytes_eq, ap, ◌∙◌}
use Rattle.std.specs.Cmp.Lexicographic.{pointwise}
use Rattle.std.specs.List.{list_any}
use Rattle.std.proofs.lemmas.List.{take_all}
use Rattle.indexmap.specs.IndexSet.{insert_key}
use Rattle.arg_table.proofs.Marking.{any_insert}
use Rattle.arg_table.proofs.Passing.{any_more}
use Rattle.arg_table.proofs.table.names_in.Goals as goal

pub loop-name-preserved : goal.loop-name-preserved
loop-name-preserved c = λ name.
    let ks = c.loop-name.made.keys in
    any_more (bytes_eq name) c.args.names.now c.loop-name.name-index c.name-item.result (list_any (bytes_eq name) ks)
    (list_any (bytes_eq name) c.insert.new.self.keys) c.loop-name-test.true c.name-item.is (c.loop-name.invariant name)
    (ap (list_any (bytes_eq name)) (c.in_ok-insert.ensures.keys ∙ ap (insert_key (pointwise nat_eq) ks) c.in_ok-copy.ensures)
    ∙ any_insert name c.name-item.result ks)

pub returns : goal.returns
returns c = λ name.
    c.loop-name.invariant name ∙ ap (list_any (bytes_eq name)) (take_all c.loop-name.name-index c.args.names.now c.loop-name-test.false)
