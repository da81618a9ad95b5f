use Rattle.std.proofs.Common.{◌≡◌, map, vec_len}
use Rattle.jmes_eval.specs.Setting.{names_in, set_at, named_pairs}
use Rattle.jmes_eval.proofs.Settings.{wrapped}
use Rattle.jmes_eval.proofs.setting.with_value.Given as goal

-- what was made inside the objects that are left
abbrev pub invariant-loop-name : goal.invariant-loop-name
invariant-loop-name l = wrapped (map named_pairs l.objects.items) l.made ≡ set_at (names_in l.fn.steps) l.fn.value l.fn.doc

abbrev pub decreases-loop-name : goal.decreases-loop-name
decreases-loop-name l = vec_len l.objects
