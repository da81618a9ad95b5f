use Rattle.std.proofs.Common.{inr, sym, subst, ◌∙◌}
use Rattle.resp_parser.specs.Inside.{IsFailure}
use Rattle.resp_parser.specs.Parsed.{OutputBy, IsParsed, OutputOf, coded, good}
use Rattle.resp_parser.proofs.Answered.{comes-failed, comes-told}
use Rattle.resp_parser.proofs.parsing.parsed.Goals as goal

pub returns-then-is_coded : goal.returns-then-is_coded
returns-then-is_coded c = inr (coded (sym c.is_coded.ensures ∙ c.if-is_coded.true))

pub returns-then-reply-ge300 : goal.returns-then-reply-ge300
returns-then-reply-ge300 c =
    let table = c.args.model.now in
    let reply = c.args.reply.now in
    comes-failed table c.args.op.now reply c.failure.result (sym c.is_coded.ensures ∙ c.if-is_coded.false) c.if-reply-ge300.true
    (subst (λ m. IsFailure m.protocol reply c.failure.result) c.metadata.ensures c.failure.ensures)

pub returns : goal.returns
returns c =
    let table = c.args.model.now in
    let reply = c.args.reply.now in
    comes-told (OutputOf (λ id. OutputBy table.metadata.protocol table.shapes id reply) c.args.op.now.output) (IsParsed table c.args.op.now reply)
    (λ answer told. good (sym c.is_coded.ensures ∙ c.if-is_coded.false) c.if-reply-ge300.false told) c.output.result c.told.result c.output.ensures c.told.ensures
