use Rattle.std.proofs.Common.{◌≡◌, true, false, IfSome, length, get_or, take}
use Rattle.std.specs.List.{All}
use Rattle.service_model.proofs.admission.input_marks.Given as goal

-- the inputs so far are marked
abbrev pub invariant-loop-row : goal.invariant-loop-row
invariant-loop-row l = record {
  size : length l.marks.items ≡ l.count;
  marked : All (λ row. IfSome row.input (λ id. get_or l.marks.items id.0 false ≡ true)) (take l.row-index l.rows);
}
