use Rattle.std.proofs.Common.{◌≡◌, drop}
use Rattle.std.specs.Str.{chars}
use Rattle.aws_world.specs.Headers.{header_of}
use Rattle.aws_world.proofs.headers.header.Given as goal

-- what is left has the first one
abbrev pub invariant-loop-field : goal.invariant-loop-field
invariant-loop-field l = header_of (chars l.name) l.field-items ≡ header_of (chars l.name) (drop l.field-index l.field-items)
