use Rattle.std.proofs.Common.{◌≡◌, drop}
use Rattle.std.specs.Str.{chars}
use Rattle.aws_world.specs.Env.{first_value}
use Rattle.aws_world.proofs.env.Env.get.Given as goal

-- none of the pairs so far has the name
abbrev pub invariant-loop-key : goal.invariant-loop-key
invariant-loop-key l = first_value (chars l.name) (drop l.key-index l.key-items) ≡ first_value (chars l.name) l.self.pairs
