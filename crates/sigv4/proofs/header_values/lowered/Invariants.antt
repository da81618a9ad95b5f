use Rattle.std.proofs.Common.{◌≡◌, ◌++◌}
use Rattle.std.specs.Str.{chars, IsUtf8}
use Rattle.std.specs.Str.Iter.{chars_rest}
use Rattle.sigv4.specs.Headers.{lowered}
use Rattle.sigv4.proofs.header_values.lowered.Given as goal

-- the letters so far and those that are due are all of them
abbrev pub invariant-loop-c : goal.invariant-loop-c
invariant-loop-c l =
    IsUtf8 (chars_rest l.c-iterator) × (l.made ++ lowered (chars (chars_rest l.c-iterator)) ≡ lowered (chars l.fn.name))
