use Rattle.std.proofs.Common.{◌≡◌, drop}
use Rattle.std.specs.Option.{option_copied}
use Rattle.jmes_eval.specs.Orders.{first_of, is_behind, sorted}
use Rattle.jmes_eval.proofs.sorting.greatest.Given as goal

-- the first of those behind
abbrev pub invariant-loop-i : goal.invariant-loop-i
invariant-loop-i l = option_copied l.found ≡ first_of (sorted is_behind (drop l.i l.items))
