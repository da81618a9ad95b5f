use Rattle.std.proofs.Common.{◌≡◌, drop}
use Rattle.model_files.specs.Paginators.{rows_of}
use Rattle.model_files.proofs.Each.{with_front}
use Rattle.model_files.proofs.paginators.read_rows.Given as goal

-- with the rows so far in front, what the pairs left give is what all give
abbrev pub invariant-loop-pair : goal.invariant-loop-pair
invariant-loop-pair l = with_front l.rows (rows_of (drop l.pair-index l.pair-items)) ≡ rows_of l.fn.pairs
