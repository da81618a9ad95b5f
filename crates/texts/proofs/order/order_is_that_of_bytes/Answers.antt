use Rattle.texts.proofs.ByteOrder.{text_cmp-bytes}
use Rattle.texts.proofs.order.order_is_that_of_bytes.Goals as goal

pub returns : goal.returns
returns c = text_cmp-bytes
