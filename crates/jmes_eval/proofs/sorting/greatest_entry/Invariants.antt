use Rattle.std.proofs.Common.{◌≡◌, drop}
use Rattle.std.specs.Prelude.{option_map}
use Rattle.std.specs.Option.{option_copied}
use Rattle.jmes_eval.specs.Inside.{entries_of, entry_of}
use Rattle.jmes_eval.specs.Meaning.{key_behind}
use Rattle.jmes_eval.specs.Orders.{first_of, sorted}
use Rattle.jmes_eval.proofs.sorting.greatest_entry.Given as goal

-- the first of those behind
abbrev pub invariant-loop-i : goal.invariant-loop-i
invariant-loop-i l = option_map entry_of (option_copied l.found) ≡ first_of (sorted key_behind (entries_of (drop l.i l.entries)))
