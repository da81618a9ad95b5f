use Rattle.std.proofs.Common.{codes, Some, Ok, ap, sym, ◌∙◌}
use Rattle.std.specs.Option.{option_copied}
use Rattle.model_files.specs.declared.fault.ModelFault.TheVariants.{WrongKind}
use Rattle.model_files.specs.declared.fault.Place.TheVariants.{At}
use Rattle.model_files.specs.Faults.{demand}
use Rattle.model_files.proofs.Each.{fails_same}
use Rattle.service_model.specs.declared.labelled.LabelUse.TheVariants.{Host}
use Rattle.service_model.specs.Labels.{labels}
use Rattle.service_model.specs.Operations.{endpoint_prefix, input_members, are_named, prefix_in}
use Rattle.service_model.proofs.Labelling.{named_as}
use Rattle.service_model.proofs.Sequences.{then_fails, then_gives, demand_fails}
use Rattle.service_model.proofs.operations.labelled_prefix.Goals as goal

pub returns-then-branch : goal.returns-then-branch
unfolding endpoint_prefix
returns-then-branch c =
    then_gives _ _ _ _ c.in_ok-prefix.ensures
    (ap (λ o. prefix_in (input_members c.args.service.now.names.now.entries c.args.service.now.shapes.now c.args.fields.now) (option_copied o)) c.in-Some.is ∙ ap (λ b. demand b (WrongKind (At (codes "hostPrefix"))) (Ok (Some c.in-Some.prefix.now)))
    (named_as Host (option_copied c.input_members-members.result) (input_members c.args.service.now.names.now.entries c.args.service.now.shapes.now c.args.fields.now) c.as_slice.result.now (labels c.in-Some.prefix.now) c.in_ok-are_named.field-0 c.input_members-members.ensures (c.as_slice.ensures.value ∙ c.in_ok-labels.ensures) c.in_ok-are_named.ensures ∙ c.if-branch.true))

pub returns : goal.returns
unfolding endpoint_prefix
returns c =
    then_fails _ _ _ c.wrong.result c.in_ok-prefix.ensures
    (fails_same c.wrong.result _ _ (sym (ap (λ o. prefix_in (input_members c.args.service.now.names.now.entries c.args.service.now.shapes.now c.args.fields.now) (option_copied o)) c.in-Some.is))
    (demand_fails (are_named Host (input_members c.args.service.now.names.now.entries c.args.service.now.shapes.now c.args.fields.now) (labels c.in-Some.prefix.now)) c.wrong.result (WrongKind (At (codes "hostPrefix"))) (Ok (Some c.in-Some.prefix.now))
    (named_as Host (option_copied c.input_members-members.result) (input_members c.args.service.now.names.now.entries c.args.service.now.shapes.now c.args.fields.now) c.as_slice.result.now (labels c.in-Some.prefix.now) c.in_ok-are_named.field-0 c.input_members-members.ensures (c.as_slice.ensures.value ∙ c.in_ok-labels.ensures) c.in_ok-are_named.ensures ∙ c.if-branch.false) c.wrong.ensures))
