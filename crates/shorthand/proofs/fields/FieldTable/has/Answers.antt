use Rattle.std.proofs.Common.{ap, ◌∙◌}
use Rattle.shorthand.specs.Reading.{has_key}
use Rattle.shorthand.proofs.Pairs.{table_has}
use Rattle.shorthand.proofs.fields.FieldTable.has.Goals as goal

pub returns : goal.returns
returns c = c.contains_key.ensures ∙ table_has c.self.inside.map.entries c.args.key.now ∙ ap (has_key c.args.key.now) c.self.view_is
