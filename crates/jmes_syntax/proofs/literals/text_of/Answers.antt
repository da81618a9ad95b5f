use Rattle.jmes_syntax.specs.Literals.{text, no_text}
use Rattle.jmes_syntax.proofs.literals.text_of.Goals as goal

pub returns-in_ok-from_str-in-Ok : goal.returns-in_ok-from_str-in-Ok
returns-in_ok-from_str-in-Ok c = rw (c.in_ok-from_str-in-Ok.ensures, c.in-Ok.ensures.cases.0) (text c.in-Ok.ensures.cases.1)

pub returns-in-Err : goal.returns-in-Err
returns-in-Err c = no_text c.in-Err.ensures.cases.0
