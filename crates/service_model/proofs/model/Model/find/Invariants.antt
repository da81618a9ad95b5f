use Rattle.std.proofs.Common.{◌≡◌, drop}
use Rattle.std.specs.Str.{chars}
use Rattle.service_model.specs.Models.{operation_named}
use Rattle.service_model.proofs.model.Model.find.Given as goal

-- none of the operations so far has the name
abbrev pub invariant-loop-operation : goal.invariant-loop-operation
invariant-loop-operation l = operation_named (chars l.command) (drop l.operation-index l.operation-items) ≡ operation_named (chars l.command) l.fn.self.operations
