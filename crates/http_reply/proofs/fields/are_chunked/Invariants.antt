use Rattle.std.proofs.Common.{◌≡◌, drop}
use Rattle.std.specs.Prelude.{codes}
use Rattle.std.specs.List.{list_all}
use Rattle.std.specs.Str.{str_eq_ignore_ascii_case}
use Rattle.aws_world.specs.Headers.{named}
use Rattle.http_reply.specs.Fields.{fields_in}
use Rattle.http_reply.proofs.fields.are_chunked.Given as goal

-- what is left decides for all
abbrev pub invariant-loop-field : goal.invariant-loop-field
invariant-loop-field l =
    list_all (λ coding. str_eq_ignore_ascii_case coding (codes "chunked")) (named (codes "transfer-encoding") (fields_in l.bytes l.fields))
    ≡ list_all (λ coding. str_eq_ignore_ascii_case coding (codes "chunked")) (named (codes "transfer-encoding") (fields_in l.bytes (drop l.field-index l.fields)))
