use Rattle.std.proofs.Common.{◌≡◌, ◌++◌}
use denote.Shadow.{shadow}
use denote.Text.{Utf8}
use Rattle.std.specs.Str.{chars}
use Rattle.texts.specs.Cut.{cut_times}
use Rattle.texts.proofs.cuts.cut_times.Given as goal

-- the parts so far, and those of what is left
abbrev pub invariant-loop-left : goal.invariant-loop-left
invariant-loop-left l = shadow (Utf8 l.rest) × (l.parts ++ cut_times l.mark l.left (chars l.rest) ≡ cut_times l.mark l.fn.times (chars l.fn.text))

abbrev pub decreases-loop-left : goal.decreases-loop-left
decreases-loop-left l = l.left
