use Rattle.std.proofs.Common.{◌≡◌, true, take}
use Rattle.std.specs.List.{list_all}
use Rattle.serializer.specs.HeaderNames.{is_header_byte}
use Rattle.serializer.proofs.header_names.are_header_bytes.Given as goal

abbrev pub invariant-loop-b : goal.invariant-loop-b
invariant-loop-b l = list_all is_header_byte (take l.b-index l.bytes) ≡ true
