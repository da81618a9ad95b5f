use Rattle.std.proofs.Common.{◌≡◌, drop}
use Rattle.model_files.proofs.Each.{with_front}
use Rattle.service_model.specs.Members.{members_of}
use Rattle.service_model.proofs.members.read_members.Given as goal

-- with the members so far in front, what the pairs left give is what all give
abbrev pub invariant-loop-pair : goal.invariant-loop-pair
invariant-loop-pair l = with_front l.members.items (members_of l.names.entries (drop l.pair-index l.pair-items)) ≡ members_of l.names.entries l.fn.pairs
