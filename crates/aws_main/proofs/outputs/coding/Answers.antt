use Rattle.std.proofs.Common.{codes, refl, ap, ◌∙◌}
use Rattle.aws_world.specs.Headers.{header_of}
use Rattle.texts.proofs.Texts.{chars_ascii}
use Rattle.aws_main.proofs.outputs.coding.Goals as goal

pub returns : goal.returns
returns c = c.header.ensures ∙ ap (λ name. header_of name c.args.reply.now.headers) (chars_ascii (codes "Content-Encoding") refl)
