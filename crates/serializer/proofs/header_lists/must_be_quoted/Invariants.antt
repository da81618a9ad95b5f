use Rattle.std.proofs.Common.{◌≡◌}
use Rattle.std.specs.Str.{chars, IsUtf8}
use Rattle.std.specs.Str.Iter.{chars_rest}
use Rattle.serializer.specs.HeaderTexts.{is_quoted}
use Rattle.serializer.proofs.header_lists.must_be_quoted.Given as goal

-- the characters that are left tell
abbrev pub invariant-loop-c : goal.invariant-loop-c
invariant-loop-c l = record {
  utf8 : IsUtf8 (chars_rest l.c-iterator);
  left : is_quoted (chars (chars_rest l.c-iterator)) ≡ is_quoted l.text;
}
