use Rattle.std.proofs.Common.{◌≡◌, ◌+◌, ◌≤◌, Ok, length}
use Rattle.std.specs.Str.Lines.{lines}
use Rattle.texts.specs.Calls.{◌>>=◌}
use Rattle.config_file.specs.declared.line.Place.TheVariants.{Outside}
use Rattle.config_file.specs.Files.{part_of}
use Rattle.config_file.specs.Reading.{due}
use Rattle.config_file.proofs.reading.sections.Given as goal

-- what is due of the lines that are left is what is due of the file, and lines are no more than bytes
abbrev pub invariant-loop-line : goal.invariant-loop-line
invariant-loop-line l = record {
  same : due l.reading (lines l.rest) ≡ (part_of l.fn.kind Outside 1 (lines l.file) >>= λ part. Ok part.sections);
  counted : l.reading.number + length l.rest ≤ 1048577;
}

abbrev pub decreases-loop-line : goal.decreases-loop-line
decreases-loop-line l = length l.rest
