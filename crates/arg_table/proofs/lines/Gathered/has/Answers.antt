use Rattle.std.proofs.Common.{nat_eq, ap, ◌∙◌}
use Rattle.std.specs.List.{list_any}
use Rattle.arg_table.proofs.Replacing.{given_by_members}
use Rattle.arg_table.proofs.lines.Gathered.has.Goals as goal

pub returns : goal.returns
returns c =
    c.contains.ensures ∙ ap (list_any (nat_eq c.args.member)) c.requires ∙ given_by_members c.args.member c.args.self.now.line.args
