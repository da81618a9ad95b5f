use Rattle.std.proofs.Common.{◌≡◌}
use Rattle.std.specs.Str.{chars, IsUtf8}
use Rattle.std.specs.Str.Iter.{chars_rest}
use Rattle.resp_parser.specs.Headers.{rest_behind}
use Rattle.resp_parser.proofs.headers.rest_behind.Given as goal

abbrev pub invariant-loop-expected : goal.invariant-loop-expected
invariant-loop-expected l =
    IsUtf8 (chars_rest l.expected-iterator)
    × IsUtf8 (chars_rest l.rest)
    × (rest_behind (chars (chars_rest l.expected-iterator)) (chars (chars_rest l.rest)) ≡ rest_behind (chars l.fn.prefix) (chars l.fn.name))
