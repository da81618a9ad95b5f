use Rattle.std.proofs.Common.{◌≡◌, take}
use Rattle.http_reply.specs.Fields.{fields_in}
use Rattle.http_reply.proofs.heads.texts.Given as goal

-- the fields so far
abbrev pub invariant-loop-field : goal.invariant-loop-field
invariant-loop-field l = l.made ≡ fields_in l.bytes (take l.field-index l.fields)
