use Rattle.std.proofs.Common.{◌++◌, ap, ◌∙◌}
use Rattle.texts.proofs.Texts.{chars_ascii}
use Rattle.texts.proofs.text.Text.push_ascii.Goals as goal

pub returns-clause-ok : goal.returns-clause-ok
returns-clause-ok c =
    c.in_ok-push_str.ensures.ok ∙ ap (λ cs. c.args.self.now ++ cs) (chars_ascii c.args.more.now c.requires)
