use Rattle.std.proofs.Common.{length, sym, ap, ◌∙◌, arith}
use Rattle.std.proofs.lemmas.Bool.{ltb-true}
use Rattle.std.proofs.lemmas.Bool.Decides.{nat_tests}
use Rattle.jmes_eval.specs.Answers.{due}
use Rattle.jmes_eval.specs.Meaning.{meaning, referred_in}
use Rattle.jmes_eval.specs.Parts.{argument_with}
use Rattle.jmes_eval.proofs.Exprefs.{expref-at, expref-past, expref-weight}
use Rattle.jmes_eval.proofs.evaluate.expref.Goals as goal

pub returns-in-Some-Expref-clause-within : goal.returns-in-Some-Expref-clause-within
returns-in-Some-Expref-clause-within c =
    let found = c.in-Some-Expref.ensures.lookup in
    expref-weight c.args.arguments.now c.args.at c.in-Some-Expref.field-0.now c.in-Some-Expref.expr (ltb-true c.args.at (length c.args.arguments.now) (sym found.0)) found.1 c.in-Some-Expref.field-0-is

pub returns-in-Some-Value-clause-value : goal.returns-in-Some-Value-clause-value
returns-in-Some-Value-clause-value c =
    let found = c.in-Some-Value.ensures.lookup in
    expref-at c.args.arguments.now c.args.at c.in-Some-Value.field-0.now (ltb-true c.args.at (length c.args.arguments.now) (sym found.0)) found.1
    ∙ ap (λ a. due (referred_in (argument_with meaning a))) c.in-Some-Value.field-0-is

pub returns-in-None-clause-value : goal.returns-in-None-clause-value
returns-in-None-clause-value c =
    let found = c.in-None.ensures.lookup in
    expref-past c.args.arguments.now c.args.at (grind (arith, nat_tests, found.0))
