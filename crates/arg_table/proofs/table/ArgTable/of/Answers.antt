use Rattle.std.proofs.Common.{subst}
use Rattle.std.specs.Prelude.{IfSome}
use Rattle.std.specs.Option.{option_copied}
use Rattle.service_model.specs.declared.shape.Kind.TheVariants as kind
use Rattle.service_model.specs.Kept.{IsOfKind}
use Rattle.arg_table.proofs.Tabling.{kind_within, table_of_input}
use Rattle.arg_table.proofs.table.ArgTable.of.Goals as goal

pub shape-requires : goal.shape-requires
shape-requires c =
    let shapes = c.args.model.now.shapes in
    kind_within shapes c.in-Some.id kind.Structure (subst (λ o. IfSome o (IsOfKind kind.Structure shapes)) c.in-Some.is c.requires.input)

pub arguments_of-requires : goal.arguments_of-requires
arguments_of-requires c = c.shape.ensures.kept.members

pub returns : goal.returns
returns c =
    table_of_input c.args.model.now.shapes c.args.op.now (option_copied c.args.row) c.in-Some.id c.shape.result.now c.in_ok-arguments.arguments
    c.paging_of-paging.result c.in-Some.is c.shape.ensures.at c.in_ok-arguments.ensures c.paging_of-paging.ensures
