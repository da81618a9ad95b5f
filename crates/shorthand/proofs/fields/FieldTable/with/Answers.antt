use Rattle.std.proofs.Common.{ap, ◌∙◌}
use Rattle.texts.specs.Keys.{put}
use Rattle.shorthand.specs.Table.{pairs_of}
use Rattle.shorthand.proofs.Pairs.{table_put}
use Rattle.shorthand.proofs.fields.FieldTable.with.Goals as goal

pub returns : goal.returns
returns c =
    ap pairs_of c.in_ok-insert.ensures.entries ∙ table_put c.self.inside.map.entries c.args.key c.args.value ∙ ap (λ ps. put ps c.args.key c.args.value) c.self.view_is
