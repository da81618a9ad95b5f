use Rattle.std.proofs.Common.{◌∙◌}
use Rattle.service_model.specs.Admission.{has_stray_json}
use Rattle.service_model.proofs.Refusals.{reaches_marked}
use Rattle.service_model.proofs.admission.leading_to_json.Goals as goal

pub returns : goal.returns
returns c =
    reaches_marked c.args.shapes.now (has_stray_json c.args.shapes.now) c.as_slice.result.now c.in_ok-leads.leads.items (c.as_slice.ensures.value ∙ c.in_ok-marks.ensures) c.in_ok-leads.ensures
