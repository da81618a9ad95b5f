use Rattle.std.proofs.Common.{◌≡◌, ◌++◌, replicate}
use Rattle.out_format.proofs.section.write_times.Given as goal

abbrev pub invariant-loop-step : goal.invariant-loop-step
invariant-loop-step l = l.out ≡ l.fn.out ++ replicate l._step l.c
