use Rattle.std.proofs.Common.{sym, ◌∙◌}
use Rattle.shape_values.proofs.Numerals.{all_digits}
use Rattle.shape_values.proofs.numbers.number_of.Goals as goal

pub capped_value-requires : goal.capped_value-requires
capped_value-requires c = all_digits c.args.digits.now (sym c.are_digits.ensures ∙ c.if-are_digits.true)
