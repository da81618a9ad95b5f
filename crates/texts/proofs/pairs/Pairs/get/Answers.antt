use Rattle.std.proofs.Common.{ap, ◌∙◌}
use Rattle.texts.specs.Keys.{value_at}
use Rattle.texts.proofs.Texts.{chars_ascii}
use Rattle.texts.proofs.pairs.Pairs.get.Goals as goal

pub returns-clause-ascii : goal.returns-clause-ascii
returns-clause-ascii g c = λ plain. c.find.ensures ∙ ap (λ key. value_at key c.args.self.now) (chars_ascii c.args.key.now plain)
