use Rattle.std.proofs.Common.{None, ap, sym, ◌∙◌, arith}
use Rattle.std.proofs.lemmas.Str.Pattern.{split_once_first}
use Rattle.arg_table.proofs.Cutting.{without_equals}
use Rattle.arg_table.proofs.words.option_in.Goals as goal

pub returns-in_ok-from_str-in-None : goal.returns-in_ok-from_str-in-None
returns-in_ok-from_str-in-None c =
    let bs = c.args.text.now in
    ap (λ t. record { name = t; joined = None }) c.in_ok-from_str-in-None.ensures
    ∙ sym (without_equals bs (split_once_first 61 bs None c.in-None.ensures.cases (omega arith)))
