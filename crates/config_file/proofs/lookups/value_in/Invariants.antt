use Rattle.std.proofs.Common.{◌≡◌, drop}
use Rattle.std.specs.Option.{option_copied, option_or}
use Rattle.std.specs.Str.{chars}
use Rattle.config_file.specs.Lookups.{value_in}
use Rattle.config_file.proofs.lookups.value_in.Given as goal

-- the value is that of the sections that are left, else the one found so far
abbrev pub invariant-loop-section : goal.invariant-loop-section
invariant-loop-section l =
    option_or (value_in (chars l.profile) (chars l.key) (drop l.section-index l.sections)) (option_copied l.value)
    ≡ value_in (chars l.profile) (chars l.key) l.sections
