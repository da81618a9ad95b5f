use Rattle.std.proofs.Common.{◌≤◌, ◌-◌, length, drop}
use Rattle.http_reply.specs.Machine.{Leads}
use Rattle.http_reply.specs.Reading.{phase_of, Fits, IsScanned}
use Rattle.http_reply.proofs.reader.advance.Given as goal

abbrev pub invariant-loop-next : goal.invariant-loop-next
invariant-loop-next l = record {
  within : l.at ≤ length l.bytes;
  fits : Fits l.due l.reply;
  scanned : IsScanned l.due (drop l.at l.bytes) l.from;
  leads : Leads l.head_only (phase_of l.fn.due l.fn.reply) l.bytes (phase_of l.due l.reply) (drop l.at l.bytes);
}

abbrev pub decreases-loop-next : goal.decreases-loop-next
decreases-loop-next l = length l.bytes - l.at
