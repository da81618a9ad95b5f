use Rattle.std.proofs.Common.{◌≡◌, refl, rules}
use Rattle.std.specs.Prelude.{pos}
use Rattle.json_doc.specs.DecimalValue.{signed}
use Rattle.resp_parser.proofs.members.status_value.Goals as goal

pub returns : goal.returns
returns c =
    let value : signed c.of.result.is_negative c.of.result.magnitude ≡ pos c.args.status = search rules in
    (c.of.result, refl, value, c.of.ensures.whole)
