use Rattle.std.proofs.Common.{◌<◌, ◌^◌, ap, ◌∙◌, arith}
use Rattle.std.specs.Prelude.{option_map}
use Rattle.std.specs.Fmt.{decimal}
use Rattle.std.specs.Option.{unwrap_or}
use Rattle.std.specs.Str.{chars}
use Rattle.resp_parser.specs.Errors.{cut_code}
use Rattle.resp_parser.proofs.Literals.{chars-decimal}
use Rattle.resp_parser.proofs.errors.code_of.Goals as goal

pub returns-in_ok-format-in-None : goal.returns-in_ok-format-in-None
returns-in_ok-format-in-None c =
    let status = c.args.reply.now.status in
    let small : status < 2 ^ 64 = omega arith in
    c.from_string.ensures ∙ ap chars c.in_ok-format-in-None.ensures.ok ∙ chars-decimal status small
    ∙ ap (λ o. unwrap_or (option_map cut_code o) (decimal status)) c.in-None.ensures
