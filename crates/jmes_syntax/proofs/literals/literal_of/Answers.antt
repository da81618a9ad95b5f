use Rattle.std.proofs.Common.{Some, None}
use Rattle.jmes_syntax.specs.Literals.{json, bare}
use Rattle.jmes_syntax.proofs.LiteralValues.{is_document, none_document}
use Rattle.jmes_syntax.proofs.literals.literal_of.Goals as goal

pub returns-in-Some : goal.returns-in-Some
returns-in-Some c = json (is_document (rw c.in-Some.is at c.in_ok-doc.ensures))

pub returns-in-Some-2 : goal.returns-in-Some-2
returns-in-Some-2 c = bare {o = Some c.in-Some-2.bare} (none_document (rw c.in-None.is at c.in_ok-doc.ensures)) (rw c.in-Some-2.is at c.in_ok-bare-in-None.ensures)

pub returns-in-None-2 : goal.returns-in-None-2
returns-in-None-2 c = bare {o = None} (none_document (rw c.in-None.is at c.in_ok-doc.ensures)) (rw c.in-None-2.is at c.in_ok-bare-in-None.ensures)
