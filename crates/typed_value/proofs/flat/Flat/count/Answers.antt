use Rattle.std.proofs.Common.{◌∙◌}
use Rattle.typed_value.proofs.Tables.{table-count}
use Rattle.typed_value.proofs.flat.Flat.count.Goals as goal

pub returns : goal.returns
returns c =
    let nodes = c.self.inside.nodes in
    c.len.ensures ∙ nodes.ok.0 ∙ table-count nodes.items c.args.self.now c.self.invariant c.self.view_is
