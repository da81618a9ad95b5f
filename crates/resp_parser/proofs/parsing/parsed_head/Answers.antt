use Rattle.std.proofs.Common.{inr, sym, ◌∙◌}
use Rattle.resp_parser.specs.Parsed.{HeadBy, IsParsedHead, OutputOf, coded_head, good_head}
use Rattle.resp_parser.proofs.Answered.{comes-told}
use Rattle.resp_parser.proofs.parsing.parsed_head.Goals as goal

pub returns-then-is_coded : goal.returns-then-is_coded
returns-then-is_coded c = inr (coded_head (sym c.is_coded.ensures ∙ c.if-is_coded.true))

pub returns : goal.returns
returns c =
    let table = c.args.model.now in
    let reply = c.args.reply.now in
    comes-told (OutputOf (λ id. HeadBy table.metadata.protocol table.shapes id reply) c.args.op.now.output) (IsParsedHead table c.args.op.now reply)
    (λ answer told. good_head (sym c.is_coded.ensures ∙ c.if-is_coded.false) told) c.head_output.result c.told.result c.head_output.ensures c.told.ensures
