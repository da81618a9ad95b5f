-- Rules to which leaves were put, with the conditions of the rules around them.
use Rattle.std.specs.Prelude.{◌≡◌, ◌<◌, ℕ, List, ◌++◌, length}
use Rattle.std.specs.List.{AllByRecursion}
use Rattle.rule_sets.specs.declared.rule_set.Condition.{Condition}
use Rattle.rule_sets.specs.declared.rule_set.RuleSet.{RuleSet}
use Rattle.rule_sets.specs.Rules.{WholeLeaf, seen_leaves}

-- these are numbers of so many rules
abbrev pub AreBelow : ℕ → List ℕ → Type 0
AreBelow count numbers = AllByRecursion (λ number. number < count) numbers

-- each path has numbers of rules that are there
abbrev pub HasPaths : RuleSet → Type 0
HasPaths rules = AllByRecursion (λ leaf. AreBelow (length rules.conditions) leaf.path) rules.leaves

-- these leaves stand behind the others, and the conditions that were there are as they were
pub record IsCut (old new : RuleSet) (leaves : List WholeLeaf) : Type 0 where
  pub parameters : new.parameters ≡ old.parameters
  pub more : List (List Condition)
  pub grown : new.conditions ≡ old.conditions ++ more
  pub paths : HasPaths new
  pub behind : seen_leaves new ≡ seen_leaves old ++ leaves
