-- Answers that are numbers.
use Rattle.std.proofs.Common.{◌≡◌, Ok, ap}
use Rattle.json_doc.specs.declared.decimal.Decimal.{Decimal}
use Rattle.json_doc.specs.declared.doc.Doc as doc
use Rattle.json_doc.specs.Exact.{Exact, HasValue}
use Rattle.jmes_eval.specs.Answers.{as_number}
use Rattle.jmes_eval.specs.Fractions.{decimal_of}
use Rattle.jmes_eval.proofs.DecimalOf.{decimal_is}

pub as_number-is : (x : Exact) (d : Decimal) → HasValue d x → as_number (decimal_of x) ≡ Ok (doc.Number d)
as_number-is x d h = ap as_number (decimal_is x d h)
