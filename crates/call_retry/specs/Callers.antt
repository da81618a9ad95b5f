-- What a caller asks, whom and how.
use Rattle.std.specs.Option.{option_copied}
use Rattle.call_retry.specs.Attempts.{Order}
use Rattle.call_retry.specs.declared.caller.Caller.{Caller}

abbrev pub order_of : {L C D : Type 0} → Caller L C D → Order
order_of caller = record {
  table = caller.model.now;
  op = caller.op.now;
  endpoint = caller.endpoint.now;
  target = caller.target.now;
  signer = option_copied caller.signer;
  limit = caller.limit;
}
