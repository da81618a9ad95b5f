use Rattle.std.proofs.Common.{◌∙◌, ap, subst, sym}
use Rattle.out_format.specs.Borrowed.{members_of, AreKeyed}
use Rattle.out_format.proofs.Placing.{insert_placed, insert_keyed}
use Rattle.out_format.proofs.members.put.Goals as goal

pub returns-clause-keyed : goal.returns-clause-keyed
returns-clause-keyed c =
    subst AreKeyed (sym c.in_ok-insert.ensures.entries) (insert_keyed c.args.members.now.entries c.as_str.result c.args.field c.requires c.as_str.ensures.bytes)

pub returns-clause-placed : goal.returns-clause-placed
returns-clause-placed c =
    ap members_of c.in_ok-insert.ensures.entries ∙ insert_placed c.args.members.now.entries c.as_str.result c.args.field c.requires c.as_str.ensures.bytes
