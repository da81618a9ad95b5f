use Rattle.std.proofs.Common.{refl}
use Rattle.http_exchange.proofs.writing.wire_with.Goals as goal

pub returns : goal.returns
returns c = rw (
  c.in_ok-extend.ensures.ok,
  c.as_slice-2.ensures,
  c.into_bytes-bytes.ensures,
  c.in_ok-push_line-3.ensures,
  c.in_ok-push_line-2.ensures,
  c.in_ok-push_length.ensures,
  c.in_ok-push_line.ensures,
  c.in_ok-push_both.ensures,
  c.as_slice.ensures,
  c.in_ok-push_request_line.ensures,
  c.new-head.ensures,
)
    refl
