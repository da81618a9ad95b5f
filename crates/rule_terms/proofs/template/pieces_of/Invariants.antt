use Rattle.std.proofs.Common.{◌≡◌, ◌++◌}
use Rattle.std.specs.Str.{chars, IsUtf8}
use Rattle.std.specs.Str.Iter.{chars_rest}
use Rattle.rule_terms.specs.Templates.{pieces_of, held, IsStand}
use Rattle.rule_terms.proofs.template.pieces_of.Given as goal

-- the pieces so far, and those of what is held back and of what is left
abbrev pub invariant-loop-c : goal.invariant-loop-c
invariant-loop-c l =
    IsUtf8 (chars_rest l.c-iterator) × IsStand l.stand
    × (l.pieces ++ pieces_of (held l.stand ++ chars (chars_rest l.c-iterator)) ≡ pieces_of (chars l.fn.text))
