use Rattle.std.proofs.Common.{◌≡◌, ◌+◌, get_or, min, true, sym, ap, ◌∙◌}
use Rattle.std.specs.Char.{is_ascii_digit}
use Rattle.http_reply.proofs.KindLemmas.{digits_value_more, all_digits_more, saturated}
use Rattle.http_reply.proofs.kinds.number.Goals as goal

pub loop-b-preserved : goal.loop-b-preserved
loop-b-preserved c =
    let value = c.args.value.now in
    let i = c.loop-b.b-index in
    let digit : is_ascii_digit (get_or value i 0) ≡ true = cc in
    let added = c.saturating_add-size.ensures ∙ ap (λ d. min (c.saturating_mul.result + d) 18446744073709551615) c.from.ensures in
    record {
      digits = all_digits_more value i c.loop-b-test.true c.loop-b.invariant.digits digit;
      number = saturated _ _ _ _ _ c.loop-b.invariant.number c.saturating_mul.ensures added
          ∙ ap (λ n. min n 18446744073709551615) (sym (digits_value_more value i c.loop-b-test.true digit));
    }
