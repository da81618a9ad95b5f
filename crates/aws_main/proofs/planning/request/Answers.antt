use Rattle.aws_main.proofs.LinePlans.{request_is}
use Rattle.aws_main.proofs.planning.request.Goals as goal

pub returns : goal.returns
returns c =
    request_is c.args.asked c.args.model.now c.in-Ok.operation.now c.in-Ok-plain_operation.operation c.in_ok-message.field-0 c.in_ok-request.request
    c.in-Ok.ensures c.in-Ok-plain_operation.ensures c.in_ok-message.ensures c.in_ok-request.ensures
