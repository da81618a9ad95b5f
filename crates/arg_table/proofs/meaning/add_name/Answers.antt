use Rattle.std.proofs.Common.{nat_eq, sym, ◌∙◌}
use Rattle.std.specs.Cmp.Lexicographic.{pointwise}
use Rattle.indexmap.specs.IndexMap.{get}
use Rattle.arg_table.proofs.Naming.{name_new, name_there}
use Rattle.arg_table.proofs.meaning.add_name.Goals as goal

pub returns-then-contains_key : goal.returns-then-contains_key
returns-then-contains_key c = λ other.
    name_there (λ q. get (pointwise nat_eq) c.args.names.now q) c.args.name other c.args.meant (sym c.contains_key.ensures ∙ c.if-contains_key.true)

pub returns : goal.returns
returns c = λ other.
    name_new (λ q. get (pointwise nat_eq) c.args.names.now q) c.args.name other c.args.meant (get (pointwise nat_eq) c.insert.new.self other)
    (sym c.contains_key.ensures ∙ c.if-contains_key.false) (c.in_ok-insert.ensures.updates.0 other)
