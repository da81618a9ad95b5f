use Rattle.std.proofs.Common.{Some, None}
use Rattle.jmes_syntax.specs.Lexing.{unclosed, closed}
use Rattle.jmes_syntax.proofs.lexer.read_delimited.Goals as goal

pub returns-in_default : goal.returns-in_default
returns-in_default c = unclosed (rw c.in_default.is at c.in_ok-value.ensures)

pub returns-in-Some-2 : goal.returns-in-Some-2
returns-in-Some-2 c = closed {o = Some c.in-Some-2.token} (rw c.in-Some.is at c.in_ok-value.ensures) (rw c.in-Some-2.is at c.in_ok-token.ensures)

pub returns-in-None : goal.returns-in-None
returns-in-None c = closed {o = None} (rw c.in-Some.is at c.in_ok-value.ensures) (rw c.in-None.is at c.in_ok-token.ensures)
