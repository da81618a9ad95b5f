use Rattle.std.proofs.Common.{◌≡◌, drop}
use Rattle.serializer.specs.Faults.{headers_from}
use Rattle.serializer.specs.Inside.{asked}
use Rattle.serializer.proofs.faults.push_headers.Given as goal

-- the headers so far and the members that are left tell
abbrev pub invariant-loop-member : goal.invariant-loop-member
invariant-loop-member l = headers_from (asked l.request) l.out (drop l.member-index l.member-items) ≡ headers_from (asked l.request) l.fn.out l.member-items
