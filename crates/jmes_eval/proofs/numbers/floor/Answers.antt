use Rattle.std.proofs.Common.{ap, ◌∙◌}
use Rattle.jmes_eval.specs.Answers.{as_number}
use Rattle.texts.specs.Calls.{◌>>=◌}
use Rattle.jmes_eval.specs.Fractions.{decimal_of}
use Rattle.jmes_eval.specs.Numbers.{floor_value}
use Rattle.jmes_eval.proofs.NumberAnswers.{as_number-is}
use Rattle.jmes_eval.proofs.numbers.floor.Goals as goal

pub returns : goal.returns
returns c =
    let e = as_number-is (floor_value c.in_ok-number.field-0) c.lower.result c.lower.ensures in
    ap (λ o. o >>= (λ n. as_number (decimal_of (floor_value n)))) c.in_ok-number.ensures ∙ e
