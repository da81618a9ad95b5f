use Rattle.std.proofs.Common.{◌*◌, ◌-◌, ◌<◌, inl, sym, ap, ◌∙◌, subst, arith}
use Rattle.std.proofs.Math.Nat.{mul-pos}
use Rattle.json_doc.proofs.LeastForms.{many_places, small_power, ten-pos, trimmed-pos}
use Rattle.json_doc.proofs.decimal_parts.least_form.Goals as goal

pub returns-then-places-ge36-clause-none : goal.returns-then-places-ge36-clause-none
returns-then-places-ge36-clause-none c = inl (many_places c.args.digits (c.args.up - c.args.down) (trimmed-pos c.args.digits c.requires) (omega arith))

pub pow-power-requires : goal.pow-power-requires
pow-power-requires c = small_power (c.args.up - c.args.down) (omega arith)

pub with_digits-requires-clause-some : goal.with_digits-requires-clause-some
with_digits-requires-clause-some c =
    let some = mul-pos (trimmed-pos c.args.digits c.requires) (ten-pos (c.args.up - c.args.down)) in
    subst (λ n. 0 < n) (sym (c.in_ok-checked_mul.ensures.1 ∙ ap (λ t. c.args.digits * t) c.pow-power.ensures)) some
