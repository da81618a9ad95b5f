use Rattle.std.proofs.Common.{◌≡◌, ◌++◌}
use Rattle.std.specs.Str.{chars, IsUtf8}
use Rattle.std.specs.Str.Iter.{chars_rest}
use Rattle.sigv4.specs.Headers.{squeezed, canonical_value}
use Rattle.sigv4.proofs.header_values.canonical_value.Given as goal

-- the characters so far and those that are due are all of the value's
abbrev pub invariant-loop-c : goal.invariant-loop-c
invariant-loop-c l =
    IsUtf8 (chars_rest l.c-iterator)
    × (l.made ++ squeezed l.behind_space (chars (chars_rest l.c-iterator)) ≡ canonical_value (chars l.fn.value))
