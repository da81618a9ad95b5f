use Rattle.std.proofs.Common.{refl, sym, ap, ◌∙◌}
use Rattle.std.specs.Prelude.{codes, option_copied}
use Rattle.aws_world.specs.Headers.{header_of}
use Rattle.texts.proofs.Texts.{chars_ascii}
use Rattle.resp_parser.specs.Errors.{whole_code}
use Rattle.resp_parser.specs.Paths.{first_of}
use Rattle.resp_parser.proofs.errors.whole_code.Goals as goal

pub returns-in-RestJson : goal.returns-in-RestJson
returns-in-RestJson c =
    let headers = c.args.reply.now.headers in
    let found = c.header.ensures ∙ ap (λ k. header_of k headers) (chars_ascii (codes "x-amzn-errortype") refl) in
    c.either.ensures ∙ ap (λ o. first_of o (option_copied c.rest_code.result)) found
    ∙ ap (first_of (header_of (codes "x-amzn-errortype") headers)) c.rest_code.ensures
    ∙ ap (λ p. whole_code p c.args.reply.now (option_copied c.args.body)) (sym c.in-RestJson.is)
