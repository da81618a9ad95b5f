use Rattle.std.proofs.Common.{◌∙◌, ap}
use Rattle.std.specs.Cmp.Lexicographic.{slice_cmp}
use Rattle.std.specs.Ordering.{nat_cmp}
use Rattle.std.specs.Prelude.{encode_utf8_all}
use Rattle.texts.proofs.ByteOrder.{text_cmp-bytes}
use Rattle.texts.proofs.order.TextOrd.cmp.Goals as goal

pub returns : goal.returns
returns c =
    c.cmp.ensures ∙ ap (λ bytes. slice_cmp nat_cmp bytes c.as_str-2.result.now) c.as_str.ensures.bytes
    ∙ ap (slice_cmp nat_cmp (encode_utf8_all c.args.self.now)) c.as_str-2.ensures.bytes ∙ text_cmp-bytes c.args.self.now c.args.other.now
