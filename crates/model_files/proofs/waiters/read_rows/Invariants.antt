use Rattle.std.proofs.Common.{◌≡◌, drop}
use Rattle.model_files.specs.Faults.{each}
use Rattle.model_files.specs.Waiters.{row_of}
use Rattle.model_files.proofs.Each.{with_front}
use Rattle.model_files.proofs.waiters.read_rows.Given as goal

-- with the waiters so far in front, what the pairs left give is what all give
abbrev pub invariant-loop-pair : goal.invariant-loop-pair
invariant-loop-pair l = with_front l.rows (each row_of (drop l.pair-index l.pair-items)) ≡ each row_of l.fn.pairs
