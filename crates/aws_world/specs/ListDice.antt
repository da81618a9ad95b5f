-- What a list of random words holds and goes by.
use Rattle.std.specs.Prelude.{ℕ, List, take, drop}
use Rattle.aws_world.specs.declared.fault_plan.FaultPlan.{FaultPlan}
use Rattle.aws_world.specs.declared.list_dice.ListDice.{ListDice}

abbrev pub words_given : ListDice → List ℕ
words_given dice = take dice.at dice.words

abbrev pub words_left : ListDice → List ℕ
words_left dice = drop dice.at dice.words

abbrev pub plan_of : ListDice → FaultPlan
plan_of dice = dice.plan
