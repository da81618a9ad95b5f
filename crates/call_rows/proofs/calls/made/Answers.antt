use Rattle.std.proofs.Common.{◌≤◌, sym, subst}
use Rattle.service_model.specs.Kept.{IsOperation}
use Rattle.call_retry.specs.Attempts.{Order}
use Rattle.call_rows.proofs.calls.made.Goals as goal

pub loop-preserved : goal.loop-preserved
loop-preserved c = record {
  operation = subst (λ (o : Order). IsOperation o.table.shapes o.op) (sym c.ask-end.ensures.same_order) c.loop.invariant.operation;
  limit = subst (λ (o : Order). 1 ≤ o.limit) (sym c.ask-end.ensures.same_order) c.loop.invariant.limit;
  none_live = c.ask-end.ensures.none_live;
}
