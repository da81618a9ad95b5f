use Rattle.std.proofs.Common.{ap, ◌∙◌}
use Rattle.std.specs.Prelude.{bytes_eq}
use Rattle.std.specs.Str.{chars}
use Rattle.texts.proofs.Texts.{bytes_eq-chars, chars_ascii}
use Rattle.rule_terms.proofs.pattern.is.Goals as goal

pub returns : goal.returns
returns c = c.eq.ensures ∙ bytes_eq-chars c.args.text.now c.args.other.now c.utf8.text c.utf8.other
    ∙ ap (bytes_eq (chars c.args.text.now)) (chars_ascii c.args.other.now c.requires)
