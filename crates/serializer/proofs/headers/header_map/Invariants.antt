use Rattle.std.proofs.Common.{◌≡◌, map, take}
use Rattle.serializer.specs.HeaderTexts.{entry_header}
use Rattle.serializer.proofs.headers.header_map.Given as goal

-- the headers of the entries so far
abbrev pub invariant-loop-field : goal.invariant-loop-field
invariant-loop-field l = l.made ≡ map (entry_header l.model.shapes l.member.wire l.item) (take l.field-index l.field-items)
