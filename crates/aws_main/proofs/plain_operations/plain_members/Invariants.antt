use Rattle.std.proofs.Common.{◌≡◌, drop}
use Rattle.aws_main.specs.Finding.{each}
use Rattle.aws_main.specs.Plain.{plain_member}
use Rattle.aws_main.proofs.Each.{with_front}
use Rattle.aws_main.proofs.plain_operations.plain_members.Given as goal

-- with the members so far in front, what is found for those left is what is found for all
abbrev pub invariant-loop-member : goal.invariant-loop-member
invariant-loop-member l = with_front l.plain (each (plain_member l.model.shapes) (drop l.member-index l.members)) ≡ each (plain_member l.model.shapes) l.fn.members
