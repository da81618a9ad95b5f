use Rattle.std.proofs.Common.{◌≡◌, drop}
use Rattle.aws_world.specs.Headers.{named, first_of}
use Rattle.http_reply.specs.Fields.{fields_in}
use Rattle.http_reply.proofs.fields.first_named.Given as goal

-- what is left has the first one
abbrev pub invariant-loop-field : goal.invariant-loop-field
invariant-loop-field l =
    first_of (named l.name (fields_in l.bytes l.fields)) ≡ first_of (named l.name (fields_in l.bytes (drop l.field-index l.fields)))
