use Rattle.std.proofs.Common.{◌+◌, drop, ap, ◌∙◌}
use Rattle.std.specs.Str.{chars}
use Rattle.model_files.specs.Faults.{each}
use Rattle.service_model.specs.Operations.{fixed_value}
use Rattle.model_files.proofs.Each.{with_front, each_goes, due_ok}
use Rattle.service_model.proofs.fixed_values.fixed_pairs.Goals as goal

pub loop-pair-preserved : goal.loop-pair-preserved
loop-pair-preserved c =
    ap (λ made. with_front made (each fixed_value (drop (c.loop-pair.pair-index + 1) c.as_slice-pair-items.result.now))) c.in_ok-push.ensures.ok
    ∙ each_goes fixed_value c.as_slice-pair-items.result.now c.loop-pair.pair-index c.pair-item.result c.in_ok-param.param c.loop-pair.params (each fixed_value c.args.pairs.now) c.loop-pair-test.true c.pair-item.is
    (due_ok (λ x. x) (chars c.as_str.result.now) (fixed_value c.pair-item.result) c.fixed_value.result c.in_ok-param.param c.fixed_value.ensures c.in_ok-param.ensures.value) c.loop-pair.invariant
