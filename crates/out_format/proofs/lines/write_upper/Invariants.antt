use Rattle.std.proofs.Common.{◌≡◌, ◌++◌}
use Rattle.std.specs.Str.{chars, IsUtf8}
use Rattle.std.specs.Str.Iter.{chars_rest}
use Rattle.out_format.specs.Text.{upper}
use Rattle.out_format.proofs.lines.write_upper.Given as goal

-- the characters so far and those that are due are all of them
abbrev pub invariant-loop-c : goal.invariant-loop-c
invariant-loop-c l =
    IsUtf8 (chars_rest l.c-iterator) × (l.out ++ upper (chars (chars_rest l.c-iterator)) ≡ l.fn.out ++ upper l.text)
