use Rattle.std.proofs.Common.{◌≡◌, ◌++◌, drop}
use Rattle.serializer.specs.Queries.{parameters_of}
use Rattle.serializer.proofs.queries.push_parameters.Given as goal

-- the parameters so far and those that are due are all of them
abbrev pub invariant-loop-member : goal.invariant-loop-member
invariant-loop-member l =
    l.out ++ parameters_of l.model.shapes (drop l.member-index l.members) l.fields ≡ l.fn.out ++ parameters_of l.model.shapes l.members l.fields
