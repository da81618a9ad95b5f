use Rattle.std.proofs.Common.{◌≡◌, ◌++◌, map}
use Rattle.std.specs.Str.{chars, IsUtf8}
use Rattle.std.specs.Str.Iter.{chars_rest}
use Rattle.rule_terms.specs.declared.template.Piece.TheVariants.{Char}
use Rattle.rule_terms.specs.Templates.{left_open}
use Rattle.rule_terms.proofs.template.push_open.Given as goal

-- the pieces so far, and those of the characters left
abbrev pub invariant-loop-c : goal.invariant-loop-c
invariant-loop-c l =
    IsUtf8 (chars_rest l.c-iterator)
    × (l.pieces ++ map Char (chars (chars_rest l.c-iterator)) ≡ l.fn.pieces ++ left_open l.fn.words)
