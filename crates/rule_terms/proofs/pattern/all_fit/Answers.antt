use Rattle.std.proofs.Common.{sym}
use Rattle.rule_terms.proofs.Fitting.{other_number}
use Rattle.rule_terms.proofs.pattern.all_fit.Goals as goal

pub returns-then-pattern-words : goal.returns-then-pattern-words
returns-then-pattern-words c = sym (other_number c.args.pattern.now c.args.words.now c.if-pattern-words.true)
