use Rattle.std.proofs.Common.{Some, ap, ◌∙◌}
use Rattle.out_format.proofs.Literals.{chars-None}
use Rattle.out_format.proofs.Layering.{out-Null}
use Rattle.out_format.proofs.layers.scalar_text.Goals as goal

pub returns-in_ok-from_str-in-Null : goal.returns-in_ok-from_str-in-Null
returns-in_ok-from_str-in-Null c = rw (c.in-Null.is, out-Null) (ap Some (c.in_ok-from_str-in-Null.ensures ∙ chars-None))
