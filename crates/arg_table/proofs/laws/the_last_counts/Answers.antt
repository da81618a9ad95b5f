use Rattle.std.proofs.Common.{ap}
use Rattle.std.proofs.lemmas.List.Sums.{fold_push}
use Rattle.arg_table.specs.declared.given.Given.TheVariants.{Argument}
use Rattle.arg_table.specs.Lines.{empty_line, with_given}
use Rattle.arg_table.proofs.Replacing.{arg_at-put_same, arg_at-put_other, members-put_given}
use Rattle.arg_table.proofs.laws.the_last_counts.Goals as goal

pub returns : goal.returns
returns c = record {
  again = λ givens arg. ap (λ line. line.args) (fold_push with_given empty_line givens (Argument arg));
  value = arg_at-put_same;
  places = λ args arg there. members-put_given args arg there;
  others = arg_at-put_other;
}
