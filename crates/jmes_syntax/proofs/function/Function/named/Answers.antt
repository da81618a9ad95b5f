use Rattle.std.proofs.Common.{◌≡◌, false, sym, ◌∙◌}
use Rattle.std.specs.Prelude.{bytes_eq}
use Rattle.jmes_syntax.specs.declared.function.TheConstants.{FUNCTIONS}
use Rattle.jmes_syntax.proofs.NamedFunctions.{passed}
use Rattle.jmes_syntax.proofs.function.Function.named.Goals as goal

pub loop-function-preserved : goal.loop-function-preserved
loop-function-preserved c =
    let other : bytes_eq c.args.name.now c.name.result.now ≡ false = sym (c.if-is.ensures.ascii c.name.ensures.ascii) in
    passed c.args.name.now FUNCTIONS c.loop-function.function-index _ c.loop-function-test.true (rw c.name.ensures.value at other) ∙ c.loop-function.invariant
