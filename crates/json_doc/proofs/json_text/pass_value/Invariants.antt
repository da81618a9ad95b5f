use Rattle.std.proofs.Common.{◌↔◌, [], length}
use Rattle.json_doc.specs.StillDue.{Closes, Opens}
use Rattle.json_doc.proofs.json_text.pass_value.Given as goal

abbrev pub invariant-loop-bracket : goal.invariant-loop-bracket
invariant-loop-bracket l = Opens [] l.fn.bytes ↔ Closes l.brackets l.rest

abbrev pub decreases-loop-bracket : goal.decreases-loop-bracket
decreases-loop-bracket l = length l.rest
