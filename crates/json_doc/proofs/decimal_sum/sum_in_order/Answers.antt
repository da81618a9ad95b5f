use Rattle.std.proofs.Common.{◌≤◌, ◌*◌, ◌^◌, ap, ◌∙◌, arith}
use Rattle.json_doc.proofs.DecimalSum.{raised_magnitude, sum_found, none_found, too_large}
use Rattle.json_doc.proofs.decimal_sum.sum_in_order.Goals as goal

pub returns-in_err-raised-clause-none : goal.returns-in_err-raised-clause-none
returns-in_err-raised-clause-none c =
    let short = c.args.short.now in
    let long = c.args.long.now in
    let unit = ap (λ k. short.magnitude * k) c.ten_to.ensures.value in
    let large : 2 * 10 ^ 36 ≤ raised_magnitude short long c.requires = omega (arith, unit, c.in_err-raised.ensures) in
    rw c.from_residual.ensures (too_large short long c.requires large)

pub returns-in_err-is_negative-clause-none : goal.returns-in_err-is_negative-clause-none
returns-in_err-is_negative-clause-none c =
    let short = c.args.short.now in
    let long = c.args.long.now in
    let raised = c.in_ok-raised.ensures.1 ∙ ap (λ k. short.magnitude * k) c.ten_to.ensures.value in
    let small = long.small in
    let large : 2 * 10 ^ 36 ≤ raised_magnitude short long c.requires = omega (arith, raised, small, c.in_err-is_negative.ensures.none) in
    rw c.from_residual-in_err-is_negative.ensures (too_large short long c.requires large)

pub returns-clause-some : goal.returns-clause-some
returns-clause-some c =
    let short = c.args.short.now in
    let long = c.args.long.now in
    let raised = c.in_ok-raised.ensures.1 ∙ ap (λ k. short.magnitude * k) c.ten_to.ensures.value in
    sum_found short long c.requires c.in_ok-is_negative.is_negative c.in_ok-is_negative.size (rw raised at c.in_ok-is_negative.ensures.some) c.decimal_of_parts.result c.decimal_of_parts.ensures.some

pub returns-clause-none : goal.returns-clause-none
returns-clause-none c =
    let short = c.args.short.now in
    let long = c.args.long.now in
    let raised = c.in_ok-raised.ensures.1 ∙ ap (λ k. short.magnitude * k) c.ten_to.ensures.value in
    none_found short long c.requires c.in_ok-is_negative.is_negative c.in_ok-is_negative.size (rw raised at c.in_ok-is_negative.ensures.some) c.decimal_of_parts.result c.decimal_of_parts.ensures.none
