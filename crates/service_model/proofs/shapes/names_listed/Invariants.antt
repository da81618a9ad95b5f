use Rattle.std.proofs.Common.{◌≡◌, drop}
use Rattle.model_files.specs.Faults.{each_from}
use Rattle.model_files.proofs.Each.{with_front}
use Rattle.service_model.specs.Shapes.{name_among}
use Rattle.service_model.proofs.shapes.names_listed.Given as goal

-- with the names so far in front, what the items left give is what all give
abbrev pub invariant-loop-at : goal.invariant-loop-at
invariant-loop-at l = with_front l.listed (each_from (name_among l.names.keys) l.at (drop l.at l.items)) ≡ each_from (name_among l.names.keys) 0 l.items
