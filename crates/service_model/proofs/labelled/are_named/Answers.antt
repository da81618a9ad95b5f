use Rattle.std.proofs.Common.{ap, sym, ◌∙◌}
use Rattle.std.specs.Option.{option_copied}
use Rattle.std.specs.List.{list_any}
use Rattle.service_model.specs.Operations.{are_named, is_labelled}
use Rattle.service_model.proofs.Labelling.{none_named, all_named}
use Rattle.service_model.proofs.labelled.are_named.Goals as goal

pub returns-in_default : goal.returns-in_default
returns-in_default c =
    none_named c.args.place c.args.labels.now (sym c.is_empty.ensures ∙ c.if-is_empty.false)
    ∙ ap (λ m. are_named c.args.place (option_copied m) c.args.labels.now) (sym c.in_default.is)

pub returns : goal.returns
returns c =
    c.are_among.ensures ∙ all_named c.args.place c.in-Some.members.now c.in_ok-names.names.keys c.args.labels.now (λ name. c.in_ok-names.ensures name ∙ ap (list_any (is_labelled c.args.place name)) c.as_slice.ensures.same)
    ∙ ap (λ m. are_named c.args.place (option_copied m) c.args.labels.now) (sym c.in-Some.is)
