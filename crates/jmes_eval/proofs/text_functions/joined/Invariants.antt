use Rattle.std.proofs.Common.{◌≡◌, ◌++◌, drop}
use Rattle.std.proofs.Common.{true}
use Rattle.std.specs.Prelude.{option_map}
use Rattle.jmes_eval.specs.Answers.{all_of}
use Rattle.jmes_eval.specs.Kinds.{text_of}
use Rattle.jmes_eval.proofs.Joins.{rest_of_join}
use Rattle.jmes_eval.proofs.text_functions.joined.Given as goal

abbrev pub invariant-loop-item : goal.invariant-loop-item
invariant-loop-item l =
    option_map (λ ts. l.made ++ rest_of_join l.glue l.is_first ts) (all_of text_of (drop l.item-index l.items)) ≡ option_map (rest_of_join l.fn.glue true) (all_of text_of l.fn.items)
