use Rattle.std.proofs.Common.{◌≡◌}
use Rattle.std.specs.Str.{chars, IsUtf8}
use Rattle.std.specs.Str.Iter.{chars_rest}
use Rattle.shorthand.specs.Grammar.{begins_with}
use Rattle.texts.specs.Blanks.{without_first_blanks}
use Rattle.shape_values.proofs.text_values.begins_object.Given as goal

-- what is left begins so exactly where the text does
abbrev pub invariant-loop-c : goal.invariant-loop-c
invariant-loop-c l =
    IsUtf8 (chars_rest l.c-iterator)
    × (begins_with 123 (without_first_blanks (chars (chars_rest l.c-iterator))) ≡ begins_with 123 (without_first_blanks l.text))
