use Rattle.std.proofs.Common.{◌≡◌}
use Rattle.arg_table.specs.Heads.{head_with}
use Rattle.arg_table.proofs.command.head_with.Given as goal

-- what the settings so far say together
abbrev pub invariant-loop-setting : goal.invariant-loop-setting
invariant-loop-setting l = l.made ≡ head_with l.yielded l.fn.service l.fn.operation l.fn.wait l.fn.tail
