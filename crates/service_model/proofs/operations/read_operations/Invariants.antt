use Rattle.std.proofs.Common.{◌≡◌, [], drop}
use Rattle.model_files.proofs.Each.{with_front}
use Rattle.service_model.specs.Operations.{operations_of}
use Rattle.service_model.proofs.operations.read_operations.Given as goal

-- with the operations so far in front, what the pairs left give behind their command names is what all give
abbrev pub invariant-loop-pair : goal.invariant-loop-pair
invariant-loop-pair l =
    with_front l.rows.items (operations_of l.service.names.now.entries l.service.shapes.now l.service.signs_by_v4 l.commands.keys (drop l.pair-index l.pair-items))
    ≡ operations_of l.service.names.now.entries l.service.shapes.now l.service.signs_by_v4 [] l.fn.pairs
