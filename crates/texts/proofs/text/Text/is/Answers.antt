use Rattle.std.proofs.Common.{ap, ◌∙◌}
use Rattle.std.specs.Str.{bytes_eq, chars}
use Rattle.texts.proofs.Texts.{bytes_eq-chars, chars_ascii}
use Rattle.texts.proofs.text.Text.is.Goals as goal

pub returns-clause-value : goal.returns-clause-value
returns-clause-value c =
    c.eq.ensures ∙ bytes_eq-chars _ _ c.as_str.utf8 c.utf8.text
    ∙ ap (λ cs. bytes_eq cs (chars c.args.text.now)) c.as_str.ensures.value

pub returns-clause-ascii : goal.returns-clause-ascii
returns-clause-ascii c = λ plain. returns-clause-value c ∙ ap (bytes_eq c.args.self.now) (chars_ascii c.args.text.now plain)
