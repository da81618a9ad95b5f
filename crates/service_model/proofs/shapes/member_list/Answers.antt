use Rattle.std.proofs.Common.{ap, subst, ◌∙◌}
use Rattle.std.specs.List.{list_any}
use Rattle.std.specs.Str.{bytes_eq}
use Rattle.texts.specs.Calls.{Answers}
use Rattle.model_files.specs.Faults.{each_from, is_memory}
use Rattle.service_model.specs.Shapes.{name_among, names_in, member_list}
use Rattle.service_model.proofs.Among.{same_listed}
use Rattle.service_model.proofs.Sequences.{then_as}
use Rattle.service_model.proofs.shapes.member_list.Goals as goal

pub returns : goal.returns
unfolding member_list
returns c =
    then_as (λ x. x) _ _ _ c.names_listed.result c.in_ok-items.ensures
    (subst (λ due. Answers is_memory (λ x. x) c.names_listed.result due) (same_listed c.in_ok-names.names.keys (names_in c.args.members.now) 0 c.in_ok-items.items.now
    (λ name. c.in_ok-names.ensures name ∙ ap (λ ms. list_any (bytes_eq name) (names_in ms)) c.as_slice.ensures))
    (subst (λ items. Answers is_memory (λ x. x) c.names_listed.result (each_from (name_among c.in_ok-names.names.keys) 0 items)) c.as_slice-2.ensures c.names_listed.ensures))
