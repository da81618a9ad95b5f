use Rattle.std.proofs.Common.{codes, Ok, ap, ◌∙◌}
use Rattle.std.specs.Option.{option_copied}
use Rattle.model_files.specs.declared.fault.ModelFault.TheVariants.{WrongKind}
use Rattle.model_files.specs.declared.fault.Place.TheVariants.{At}
use Rattle.model_files.specs.Faults.{demand}
use Rattle.service_model.specs.declared.labelled.LabelUse.TheVariants.{Uri}
use Rattle.service_model.specs.Labels.{labels}
use Rattle.service_model.specs.Operations.{uri_of, input_members, are_named}
use Rattle.service_model.proofs.Labelling.{named_as}
use Rattle.service_model.proofs.Sequences.{then_fails, then_gives, demand_fails}
use Rattle.service_model.proofs.operations.labelled_uri.Goals as goal

pub returns-then-branch : goal.returns-then-branch
unfolding uri_of
returns-then-branch c =
    then_gives _ _ _ _ c.in_ok-uri.ensures
    (ap (λ b. demand b (WrongKind (At (codes "requestUri"))) (Ok c.in_ok-uri.uri.now))
    (named_as Uri (option_copied c.input_members-members.result) (input_members c.args.service.now.names.now.entries c.args.service.now.shapes.now c.args.fields.now) c.as_slice.result.now (labels c.in_ok-uri.uri.now) c.in_ok-are_named.field-0 c.input_members-members.ensures (c.as_slice.ensures.value ∙ c.in_ok-labels.ensures) c.in_ok-are_named.ensures ∙ c.if-branch.true))

pub returns : goal.returns
unfolding uri_of
returns c =
    then_fails _ _ _ c.wrong.result c.in_ok-uri.ensures
    (demand_fails (are_named Uri (input_members c.args.service.now.names.now.entries c.args.service.now.shapes.now c.args.fields.now) (labels c.in_ok-uri.uri.now)) c.wrong.result (WrongKind (At (codes "requestUri"))) (Ok c.in_ok-uri.uri.now)
    (named_as Uri (option_copied c.input_members-members.result) (input_members c.args.service.now.names.now.entries c.args.service.now.shapes.now c.args.fields.now) c.as_slice.result.now (labels c.in_ok-uri.uri.now) c.in_ok-are_named.field-0 c.input_members-members.ensures (c.as_slice.ensures.value ∙ c.in_ok-labels.ensures) c.in_ok-are_named.ensures ∙ c.if-branch.false) c.wrong.ensures)
