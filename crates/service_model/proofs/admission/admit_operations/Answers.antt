use Rattle.std.proofs.Common.{◌<◌, IfSome, [], ◌∷◌, ◌++◌, length, sym, subst}
use Rattle.std.specs.List.{All, AllZip}
use Rattle.service_model.specs.Admission.{IsAdmitted}
use Rattle.service_model.proofs.Refusals.{parts_below, inputs_within, zip_push}
use Rattle.service_model.proofs.admission.admit_operations.Goals as goal

pub look_at_shapes-requires-clause-parts : goal.look_at_shapes-requires-clause-parts
look_at_shapes-requires-clause-parts c = parts_below c.args.shapes.now c.requires.parts

pub look_at_shapes-requires-clause-inputs : goal.look_at_shapes-requires-clause-inputs
look_at_shapes-requires-clause-inputs c =
    subst (All (λ row. IfSome row.input (λ id. id.0 < length c.args.shapes.now))) (sym c.as_slice.ensures.value) (inputs_within c.args.shapes.now c.args.rows.items c.requires.structures)

pub loop-row-preserved : goal.loop-row-preserved
loop-row-preserved c =
    let admitted = IsAdmitted c.args.metadata.now.protocol c.args.shapes.now in
    subst (λ operations. AllZip admitted (c.loop-row.yielded ++ c.in-Some.row ∷ []) operations) (sym c.in_ok-push.ensures.items)
    (zip_push admitted c.loop-row.yielded c.loop-row.operations.items c.in-Some.row c.in_ok-admitted.field-0 c.loop-row.invariant c.in_ok-admitted.ensures)
