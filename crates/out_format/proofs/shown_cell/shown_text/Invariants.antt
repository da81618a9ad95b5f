use Rattle.std.proofs.Common.{◌≡◌, ◌++◌, map}
use Rattle.std.specs.Str.{chars, IsUtf8}
use Rattle.std.specs.Str.Iter.{chars_rest}
use Rattle.out_format.specs.Sections.{shown_character}
use Rattle.out_format.proofs.shown_cell.shown_text.Given as goal

-- the characters so far and those that are due are all of them
abbrev pub invariant-loop-c : goal.invariant-loop-c
invariant-loop-c l =
    IsUtf8 (chars_rest l.c-iterator) × (l.made ++ map shown_character (chars (chars_rest l.c-iterator)) ≡ map shown_character (chars l.fn.text))
