use Rattle.std.proofs.Common.{◌∙◌}
use Rattle.texts.proofs.ByteOrder.{bytes_cmp-chars}
use Rattle.texts.proofs.order.compare.Goals as goal

pub returns : goal.returns
returns c = c.cmp.ensures ∙ bytes_cmp-chars c.args.a.now c.args.b.now c.utf8.a c.utf8.b
