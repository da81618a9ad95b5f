use Rattle.std.proofs.Common.{◌≤◌, ◌↔◌, length}
use Rattle.json_doc.specs.StillDue.{Opens}
use Rattle.json_doc.proofs.json_text.descend.Given as goal

abbrev pub invariant-loop-opened : goal.invariant-loop-opened
invariant-loop-opened l = (Opens l.fn.brackets l.fn.bytes ↔ Opens l.brackets l.rest) × (length l.rest ≤ length l.fn.bytes)

abbrev pub decreases-loop-opened : goal.decreases-loop-opened
decreases-loop-opened l = length l.rest
