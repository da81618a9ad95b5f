use Rattle.std.proofs.Common.{ap, ◌∙◌}
use Rattle.std.specs.Str.{chars}
use Rattle.resp_parser.proofs.bodies.text.Goals as goal

pub returns-in_ok-from_str-in-Ok : goal.returns-in_ok-from_str-in-Ok
returns-in_ok-from_str-in-Ok c = (c.in-Ok.ensures.cases.1, c.in_ok-from_str-in-Ok.ensures ∙ ap chars c.in-Ok.ensures.cases.0)

pub returns-in-Err : goal.returns-in-Err
returns-in-Err c = c.in-Err.ensures.cases.0
