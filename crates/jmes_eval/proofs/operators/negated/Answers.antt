use Rattle.std.proofs.Common.{ap, ◌∙◌}
use Rattle.jmes_eval.specs.Kinds.{truth_of}
use Rattle.jmes_eval.specs.Inside.{seen_doc}
use Rattle.jmes_eval.proofs.Negations.{negated-even, negated-odd}
use Rattle.jmes_eval.proofs.operators.negated.Goals as goal

pub returns-then-negations-eq0-2 : goal.returns-then-negations-eq0-2
returns-then-negations-eq0-2 c =
    negated-even c.args.negations (seen_doc c.args.seen) c.is_true-truth.result c.if-negations-eq0.false c.if-negations-eq0-2.true (c.is_true-truth.ensures ∙ ap truth_of c.doc.ensures)

pub returns : goal.returns
returns c =
    negated-odd c.args.negations (seen_doc c.args.seen) c.is_true-truth.result c.if-negations-eq0.false c.if-negations-eq0-2.false (c.is_true-truth.ensures ∙ ap truth_of c.doc.ensures)
