use Rattle.std.proofs.Common.{[], refl, sym, ◌∙◌}
use Rattle.texts.proofs.Texts.{chars_ascii}
use Rattle.aws_main.proofs.Saying.{no_url}
use Rattle.aws_main.proofs.messages.url_of.Goals as goal

pub returns-in-None : goal.returns-in-None
returns-in-None c = chars_ascii [] refl ∙ sym (no_url c.args.words.now c.in-None.ensures.lookup.0)
