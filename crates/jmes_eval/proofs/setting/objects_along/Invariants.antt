use Rattle.std.proofs.Common.{◌≡◌, ◌++◌, map, drop}
use Rattle.std.specs.Option.{option_copied}
use Rattle.jmes_eval.specs.Orders.{doc_or_null}
use Rattle.jmes_eval.specs.Setting.{names_in, objects_along, named_pairs}
use Rattle.jmes_eval.proofs.setting.objects_along.Given as goal

-- those so far and those that are still to come
abbrev pub invariant-loop-step : goal.invariant-loop-step
invariant-loop-step l =
    map named_pairs l.made.items ++ objects_along (names_in (drop l.step-index l.steps)) (doc_or_null (option_copied l.at)) ≡ objects_along (names_in l.steps) l.fn.doc
