use Rattle.std.proofs.Common.{◌≡◌, ◌++◌}
use Rattle.std.specs.List.{slice_split}
use Rattle.std.specs.Str.{chars, IsUtf8}
use Rattle.std.specs.Str.Iter.{chars_rest}
use Rattle.texts.specs.Cut.{cut, is_among}
use Rattle.texts.proofs.CutTexts.{with_start}
use Rattle.texts.proofs.cuts.cut.Given as goal

-- the parts so far, and those of what is left, of which the first has begun
abbrev pub invariant-loop-c : goal.invariant-loop-c
invariant-loop-c l =
    IsUtf8 (chars_rest l.c-iterator)
    × (l.parts ++ with_start l.part (slice_split (is_among l.marks) (chars (chars_rest l.c-iterator))) ≡ cut (is_among l.marks) (chars l.fn.text))
