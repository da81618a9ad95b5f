use Rattle.json_doc.proofs.Literals.{chars-comma}
use Rattle.json_doc.proofs.printer.write_before.Goals as goal

pub returns-in-Compact-false : goal.returns-in-Compact-false
returns-in-Compact-false c = rw (c.in-Compact-false.is-0, c.in-Compact-false.is-1, ← chars-comma) c.push_str.ensures.ok
