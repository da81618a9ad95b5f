use Rattle.std.proofs.Common.{◌≡◌, drop}
use Rattle.std.specs.Option.{option_copied, option_or}
use Rattle.std.specs.Str.{chars}
use Rattle.config_file.specs.Lookups.{last_value}
use Rattle.config_file.proofs.lookups.last_value.Given as goal

-- the last value is that of the pairs that are left, else the one found so far
abbrev pub invariant-loop-key : goal.invariant-loop-key
invariant-loop-key l = option_or (last_value (chars l.name) (drop l.key-index l.pairs)) (option_copied l.last) ≡ last_value (chars l.name) l.pairs
