use Rattle.std.proofs.Common.{◌≡◌, ◌+◌, ◌*◌, ◌++◌, drop, map}
use denote.Param.Weighed.{most}
use Rattle.json_doc.specs.declared.doc.Doc.{size-Doc}
use Rattle.rule_sets.specs.Rules.{expression_of}
use Rattle.rule_sets.proofs.reading.+expressions.Given as goal

abbrev pub decreases-read_expression : goal.decreases-read_expression
decreases-read_expression l = 3 * goal.size-read_expression l

abbrev pub decreases-read_call : goal.decreases-read_call
decreases-read_call l = 3 * most (λ p. size-Doc p.value) l.fields.now + 1

abbrev pub decreases-read_expressions : goal.decreases-read_expressions
decreases-read_expressions l = 3 * most size-Doc l.docs.now + 1

-- the expressions so far, and those of the rest
abbrev pub invariant-read_expressions-loop-doc : goal.invariant-read_expressions-loop-doc
invariant-read_expressions-loop-doc l = l.expressions ++ map expression_of (drop l.doc-index l.docs) ≡ map expression_of l.docs
