-- Parts of expressions with a function at each expression in them: with their meanings, or weights.
use Rattle.std.specs.Prelude.{List, map}
use Rattle.texts.specs.declared.pairs.Pair.{Pair}
use Rattle.jmes_syntax.specs.declared.expr.Argument.{Argument}
use Rattle.jmes_syntax.specs.declared.expr.Argument.TheVariants as argument
use Rattle.jmes_syntax.specs.declared.expr.Chain.{Chain}
use Rattle.jmes_syntax.specs.declared.expr.Compared.{Compared}
use Rattle.jmes_syntax.specs.declared.expr.Operand.{Operand}
use Rattle.jmes_syntax.specs.declared.expr.Step.{Step}
use Rattle.jmes_syntax.specs.declared.expr.Step.TheVariants as step

abbrev pub argument_with : {A B : Type 0} → (A → B) → Argument A → Argument B
argument_with f (argument.Value e) = argument.Value (f e)
argument_with f (argument.Expref e) = argument.Expref (f e)

abbrev pub pair_with : {A B : Type 0} → (A → B) → Pair A → Pair B
pair_with f p = record { key = p.key; value = f p.value }

abbrev pub step_with : {A B : Type 0} → (A → B) → Step A → Step B
step_with f step.Current = step.Current
step_with f (step.Literal value) = step.Literal value
step_with f (step.Field name) = step.Field name
step_with f (step.Group e) = step.Group (f e)
step_with f (step.List es) = step.List (map f es)
step_with f (step.Hash ps) = step.Hash (map (pair_with f) ps)
step_with f (step.Call g args) = step.Call g (map (argument_with f) args)
step_with f (step.Index n) = step.Index n
step_with f step.Values = step.Values
step_with f step.Elements = step.Elements
step_with f (step.Slice s) = step.Slice s
step_with f (step.FilterProjection e) = step.FilterProjection (f e)

abbrev pub steps_with : {A B : Type 0} → (A → B) → List (Step A) → List (Step B)
steps_with f steps = map (step_with f) steps

abbrev pub chain_with : {A B : Type 0} → (A → B) → Chain A → Chain B
chain_with f c = record { first = steps_with f c.first; flattened = map (steps_with f) c.flattened }

abbrev pub operand_with : {A B : Type 0} → (A → B) → Operand A → Operand B
operand_with f o = record { negations = o.negations; chain = chain_with f o.chain }

abbrev pub compared_with : {A B : Type 0} → (A → B) → Compared A → Compared B
compared_with f c = record { comparator = c.comparator; right = operand_with f c.right }
