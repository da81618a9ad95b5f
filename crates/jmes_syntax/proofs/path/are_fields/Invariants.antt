use Rattle.std.proofs.Common.{◌↔◌, drop}
use Rattle.std.specs.List.{AllByRecursion}
use Rattle.jmes_syntax.specs.Paths.{IsField}
use Rattle.jmes_syntax.proofs.path.are_fields.Given as goal

-- fields alone so far
abbrev pub invariant-loop-step : goal.invariant-loop-step
invariant-loop-step l = AllByRecursion IsField (drop l.step-index l.steps) ↔ AllByRecursion IsField l.steps
