use Rattle.std.proofs.Common.{◌∷◌, [], ◌++◌, map, bytes_eq, sym, ap, subst, ◌∙◌}
use Rattle.std.specs.List.{list_any, enumerate_from, All}
use Rattle.std.specs.Option.{option_copied}
use Rattle.std.proofs.lemmas.List.{take_all}
use Rattle.std.proofs.lemmas.List.Elements.{All-get_or}
use Rattle.service_model.specs.Kept.{IsMember, IsWithin}
use Rattle.arg_table.specs.Tables.{argument_of, paged_by}
use Rattle.arg_table.proofs.Numbered.{numbered_more}
use Rattle.arg_table.proofs.table.arguments_of.Goals as goal

pub argument_of-requires : goal.argument_of-requires
argument_of-requires c =
    let shapes = c.args.model.now.shapes in let ms = c.as_slice-members.result.now in
    let all = subst (All (IsMember shapes)) (sym c.as_slice-members.ensures) c.requires in
    let here = All-get_or (IsMember shapes) ms c.loop-at.at c.index-members-at.result c.loop-at-test.true all in
    subst (λ m. IsWithin shapes m.shape) (sym c.index-members-at.is) here.shape

pub loop-at-preserved : goal.loop-at-preserved
loop-at-preserved c =
    let shapes = c.args.model.now.shapes in
    let required = c.args.input.now.required in
    let paged = paged_by (option_copied c.args.row) in
    numbered_more (λ e. argument_of shapes required paged e.0 e.1) c.as_slice-members.result.now c.loop-at.at c.index-members-at.result
    c.loop-at.arguments.items c.push.new.self.items c.loop-at-test.true c.index-members-at.is c.loop-at.invariant
    (c.in_ok-push.ensures.items ∙ ap (λ a. c.loop-at.arguments.items ++ a ∷ []) (c.in_ok-argument_of.ensures required paged
    (λ name. c.in_ok-required.ensures name ∙ ap (list_any (bytes_eq name)) c.as_slice.ensures) c.in_ok-paged.ensures))

pub returns : goal.returns
returns c =
    let shapes = c.args.model.now.shapes in
    let required = c.args.input.now.required in
    let paged = paged_by (option_copied c.args.row) in
    c.from_vec.ensures ∙ c.loop-at.invariant
    ∙ ap (λ ms. map (λ e. argument_of shapes required paged e.0 e.1) (enumerate_from 0 ms))
    (take_all c.loop-at.at c.as_slice-members.result.now c.loop-at-test.false ∙ c.as_slice-members.ensures)
