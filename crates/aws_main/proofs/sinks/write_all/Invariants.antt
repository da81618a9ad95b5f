use Rattle.std.proofs.Common.{◌≡◌, ◌≤◌, ◌++◌, ◌-◌, length, take}
use Rattle.aws_world.specs.Told.{Tells}
use Rattle.aws_main.proofs.sinks.write_all.Given as goal

-- the bytes before the place were written
abbrev pub invariant-loop-at : goal.invariant-loop-at
invariant-loop-at g l = record {
  within : l.at ≤ length l.bytes;
  written : Tells (g.S.Sink.told l.fn.sink) (g.S.Sink.told l.sink) (λ before after. after ≡ before ++ take l.at l.bytes);
  later : g.S.Sink.faults l.fn.sink ≤ g.S.Sink.faults l.sink;
}

abbrev pub decreases-loop-at : goal.decreases-loop-at
decreases-loop-at g l = length l.bytes - l.at
