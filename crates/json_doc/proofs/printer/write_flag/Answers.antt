use Rattle.json_doc.proofs.Literals.{chars-true, chars-false}
use Rattle.json_doc.proofs.printer.write_flag.Goals as goal

pub returns-then-flag : goal.returns-then-flag
returns-then-flag c = rw (c.if-flag.true, ← chars-true) c.push_str.ensures.ok

pub returns-else-flag : goal.returns-else-flag
returns-else-flag c = rw (c.if-flag.false, ← chars-false) c.push_str-else-flag.ensures.ok
