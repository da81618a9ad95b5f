use Rattle.std.proofs.Common.{sym, ◌∙◌, arith}
use Rattle.arg_table.proofs.Cutting.{plain_ends, plain_goes, plain_of_none}
use Rattle.arg_table.proofs.words.count_plain.Goals as goal

pub returns-then-is_option : goal.returns-then-is_option
returns-then-is_option c =
    omega (arith, plain_ends c.args.words.now c.loop-at.at c.index-words-at.result c.loop-at-test.true c.index-words-at.is (sym c.is_option.ensures ∙ c.if-is_option.true))

pub loop-at-preserved : goal.loop-at-preserved
loop-at-preserved c =
    omega (arith, plain_goes c.args.words.now c.loop-at.at c.index-words-at.result c.loop-at-test.true c.index-words-at.is (sym c.is_option.ensures ∙ c.if-is_option.false))

pub returns : goal.returns
returns c = omega (arith, plain_of_none c.args.words.now c.loop-at.at (omega arith))
