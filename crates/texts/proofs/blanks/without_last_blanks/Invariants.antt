use Rattle.std.proofs.Common.{◌≡◌, length, reverse}
use denote.Shadow.{shadow}
use denote.Text.{Utf8}
use Rattle.std.specs.Str.{chars}
use Rattle.texts.specs.Blanks.{without_first_blanks}
use Rattle.texts.proofs.blanks.without_last_blanks.Given as goal

-- the blanks that are gone count for nothing
abbrev pub invariant-loop-shorter : goal.invariant-loop-shorter
invariant-loop-shorter l = record {
  text : shadow (Utf8 l.rest);
  same : without_first_blanks (reverse (chars l.rest)) ≡ without_first_blanks (reverse (chars l.text));
}

abbrev pub decreases-loop-shorter : goal.decreases-loop-shorter
decreases-loop-shorter l = length (chars l.rest)
