use Rattle.std.proofs.Common.{◌≡◌, ◌++◌}
use Rattle.std.specs.List.{flat_map}
use Rattle.std.specs.Str.{chars, IsUtf8}
use Rattle.std.specs.Str.Iter.{chars_rest}
use Rattle.serializer.specs.HeaderTexts.{quoted_character}
use Rattle.serializer.proofs.header_lists.push_marked.Given as goal

-- the characters so far and those that are due are all of them
abbrev pub invariant-loop-c : goal.invariant-loop-c
invariant-loop-c l = record {
  utf8 : IsUtf8 (chars_rest l.c-iterator);
  due : l.out ++ flat_map quoted_character (chars (chars_rest l.c-iterator)) ≡ l.fn.out ++ flat_map quoted_character l.text;
}
