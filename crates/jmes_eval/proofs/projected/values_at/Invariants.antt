use Rattle.std.proofs.Common.{◌≡◌, ◌++◌, drop}
use Rattle.jmes_eval.specs.Lists.{values_in}
use Rattle.jmes_eval.specs.Inside.{seen_all}
use Rattle.jmes_eval.proofs.projected.values_at.Given as goal

abbrev pub invariant-loop-field : goal.invariant-loop-field
invariant-loop-field l = seen_all l.made.items ++ values_in (drop l.field-index l.fields) ≡ values_in l.fn.fields
