use Rattle.std.proofs.Common.{◌+◌, [], ◌∷◌, Ok, drop, sym, subst, ap, ◌∙◌}
use Rattle.std.specs.List.{All}
use Rattle.std.specs.Str.{chars}
use Rattle.std.proofs.lemmas.List.Elements.{All-append, All-nil, All-from_recursion}
use Rattle.model_files.specs.Faults.{each}
use Rattle.service_model.specs.declared.shape.Shape.{Shape}
use Rattle.service_model.specs.Kept.{HasOwnNames}
use Rattle.service_model.specs.Shapes.{shape_of, shapes_of}
use Rattle.model_files.proofs.Each.{with_front, nothing_in_front, each_goes, each_done, due_ok}
use Rattle.service_model.proofs.Sequences.{came_well}
use Rattle.service_model.proofs.shapes.read_shapes.Goals as goal

pub loop-pair-init : goal.loop-pair-init
loop-pair-init c = (
  ap (λ made. with_front made (shapes_of c.args.names.now.entries c.as_slice-pair-items.result.now)) c.in_ok-shapes.ensures.items
      ∙ nothing_in_front (shapes_of c.args.names.now.entries c.as_slice-pair-items.result.now)
      ∙ ap (shapes_of c.args.names.now.entries) c.as_slice-pair-items.ensures.same,
  subst (All (λ (shape : Shape). HasOwnNames shape.members)) (sym c.in_ok-shapes.ensures.items) (All-nil (λ (shape : Shape). HasOwnNames shape.members)),
)

pub loop-pair-preserved : goal.loop-pair-preserved
loop-pair-preserved c = (
  ap (λ made. with_front made (each (shape_of c.args.names.now.entries) (drop (c.loop-pair.pair-index + 1) c.as_slice-pair-items.result.now))) c.in_ok-push.ensures.items
      ∙ each_goes (shape_of c.args.names.now.entries) c.as_slice-pair-items.result.now c.loop-pair.pair-index c.pair-item.result c.in_ok-shape.shape c.loop-pair.shapes.items (each (shape_of c.args.names.now.entries) c.args.pairs.now) c.loop-pair-test.true c.pair-item.is
      (due_ok (λ x. x) (chars c.as_str.result.now) (shape_of c.args.names.now.entries c.pair-item.result) c.read_shape.result c.in_ok-shape.shape c.read_shape.ensures.value c.in_ok-shape.ensures.value) c.loop-pair.invariant.0,
  subst (All (λ shape. HasOwnNames shape.members)) (sym c.in_ok-push.ensures.items)
      (All-append (λ shape. HasOwnNames shape.members) c.loop-pair.shapes.items (c.in_ok-shape.shape ∷ []) c.loop-pair.invariant.1
      (All-from_recursion (λ shape. HasOwnNames shape.members) (c.in_ok-shape.shape ∷ [])
      (came_well (λ shape. HasOwnNames shape.members) (chars c.as_str.result.now) c.read_shape.result c.in_ok-shape.shape c.read_shape.ensures.distinct c.in_ok-shape.ensures.value, tt))),
)

pub returns-clause-value : goal.returns-clause-value
returns-clause-value c =
    each_done (shape_of c.args.names.now.entries) c.as_slice-pair-items.result.now c.loop-pair.pair-index c.loop-pair.shapes.items (shapes_of c.args.names.now.entries c.args.pairs.now)
    c.loop-pair-test.false c.loop-pair.invariant.0
    ∙ ap Ok (sym c.from_vec.ensures)

pub returns-clause-distinct : goal.returns-clause-distinct
returns-clause-distinct c = subst (All (λ shape. HasOwnNames shape.members)) (sym c.from_vec.ensures) c.loop-pair.invariant.1
