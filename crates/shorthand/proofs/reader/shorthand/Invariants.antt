use Rattle.std.proofs.Common.{◌≡◌, ◌+◌, length}
use Rattle.std.specs.Prelude.{encode_utf8_all}
use Rattle.std.specs.Str.{IsUtf8}
use Rattle.std.specs.Str.Iter.{chars_rest}
use Rattle.shorthand.proofs.Passed.{IsPassed}
use Rattle.shorthand.proofs.reader.shorthand.Given as goal

-- the characters so far are read, and those left are
abbrev pub invariant-loop-c : goal.invariant-loop-c
invariant-loop-c l =
    IsUtf8 (chars_rest l.c-iterator)
    × IsPassed l.fn.text (chars_rest l.c-iterator) l.reader l.at
    × (l.at + length (chars_rest l.c-iterator) ≡ length (encode_utf8_all l.fn.text))
