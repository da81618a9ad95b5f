use Rattle.std.proofs.Common.{nat_eq, ap, ◌∙◌}
use Rattle.std.specs.Cmp.Lexicographic.{pointwise}
use Rattle.std.proofs.lemmas.List.{take_all}
use Rattle.indexmap.specs.IndexMap.{get}
use Rattle.arg_table.specs.Tables.{argument_named}
use Rattle.arg_table.proofs.Naming.{named_more}
use Rattle.arg_table.proofs.meaning.names_of.Goals as goal

pub loop-argument-preserved : goal.loop-argument-preserved
loop-argument-preserved c = λ name.
    named_more c.args.arguments.now c.loop-argument.argument-index c.argument-item.result name
    (get (pointwise nat_eq) c.loop-argument.names name) (get (pointwise nat_eq) c.add_names.new.names name)
    c.loop-argument-test.true c.argument-item.is (c.loop-argument.invariant name) (c.in_ok-add_names.ensures name)

pub returns : goal.returns
returns c = λ name.
    c.loop-argument.invariant name
    ∙ ap (λ given. argument_named given name) (take_all c.loop-argument.argument-index c.args.arguments.now c.loop-argument-test.false)
