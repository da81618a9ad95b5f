use Rattle.std.proofs.Common.{◌∙◌}
use Rattle.service_model.proofs.Refusals.{reaches_marked}
use Rattle.service_model.proofs.admission.leading_to_events.Goals as goal

pub returns : goal.returns
returns c =
    reaches_marked c.args.shapes.now (λ shape. shape.events) c.as_slice.result.now c.in_ok-leads.leads.items (c.as_slice.ensures.value ∙ c.in_ok-marks.ensures) c.in_ok-leads.ensures
