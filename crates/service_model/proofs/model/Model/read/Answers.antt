use Rattle.std.proofs.Common.{sym, subst, refl}
use Rattle.std.specs.List.{All, AllZip}
use Rattle.model_files.proofs.Each.{fails_first}
use Rattle.service_model.specs.Models.{draft_of, HasParts}
use Rattle.service_model.specs.Admission.{IsAdmitted}
use Rattle.service_model.proofs.Sequences.{then_fails, then_gives, came}
use Rattle.service_model.proofs.Reading.{reads_fault, few_shapes, few_enough, sound_table}
use Rattle.service_model.proofs.WholeTables.{HasRowStructures, sound_entries}
use Rattle.service_model.proofs.model.Model.read.Goals as goal

pub returns-in_err-parts : goal.returns-in_err-parts
unfolding draft_of
returns-in_err-parts c =
    reads_fault c.args.doc.now c.from_residual.result c.in_err-parts.field-0.0 (came c.from_residual.result c.in_err-parts.field-0.0 c.from_residual.ensures)
    (fails_first c.in_err-parts.field-0.0 _ _ c.in_err-parts.ensures.parts)

pub returns-in_err-described : goal.returns-in_err-described
unfolding draft_of
returns-in_err-described c =
    reads_fault c.args.doc.now c.from_residual-in_err-described.result c.in_err-described.field-0.0 (came c.from_residual-in_err-described.result c.in_err-described.field-0.0 c.from_residual-in_err-described.ensures)
    (then_fails _ _ _ c.in_err-described.field-0.0 c.in_ok-parts.ensures.parts (fails_first c.in_err-described.field-0.0 _ _ c.in_err-described.ensures))

pub read_entries-requires : goal.read_entries-requires
read_entries-requires c =
    few_enough _ (few_shapes c.args.doc.now c.in_ok-parts.parts.metadata.now c.in_ok-parts.parts.operations.now c.in_ok-parts.parts.shapes.now c.in_ok-parts.ensures.parts)

pub returns-in_err-rows : goal.returns-in_err-rows
unfolding draft_of
returns-in_err-rows c =
    reads_fault c.args.doc.now c.from_residual-in_err-rows.result c.in_err-rows.field-0.0 (came c.from_residual-in_err-rows.result c.in_err-rows.field-0.0 c.from_residual-in_err-rows.ensures)
    (then_fails _ _ _ c.in_err-rows.field-0.0 c.in_ok-parts.ensures.parts (then_fails _ _ _ c.in_err-rows.field-0.0 c.in_ok-described.ensures (fails_first c.in_err-rows.field-0.0 _ _ c.in_err-rows.ensures.value)))

pub admit_operations-requires-clause-parts : goal.admit_operations-requires-clause-parts
admit_operations-requires-clause-parts c =
    subst (λ shapes. All (HasParts shapes) shapes) (sym c.as_slice.ensures)
    (sound_entries c.in_ok-described.described.signs_by_v4 c.in_ok-parts.parts.operations.now c.in_ok-parts.parts.shapes.now c.in_ok-rows.rows.items c.in_ok-rows.shapes c.in_ok-rows.ensures.value).parts

pub admit_operations-requires-clause-structures : goal.admit_operations-requires-clause-structures
admit_operations-requires-clause-structures c =
    subst (λ shapes. All (HasRowStructures shapes) c.in_ok-rows.rows.items) (sym c.as_slice.ensures)
    (sound_entries c.in_ok-described.described.signs_by_v4 c.in_ok-parts.parts.operations.now c.in_ok-parts.parts.shapes.now c.in_ok-rows.rows.items c.in_ok-rows.shapes c.in_ok-rows.ensures.value).structures

pub invariant_of-result : goal.invariant_of-result
invariant_of-result c =
    sound_table c.in_ok-described.described.metadata.protocol c.in_ok-parts.parts.shapes.now c.in_ok-rows.rows.items
    (record { metadata = c.in_ok-described.described.metadata; shapes = c.in_ok-rows.shapes; operations = c.in_ok-operations.operations })
    (few_shapes c.args.doc.now c.in_ok-parts.parts.metadata.now c.in_ok-parts.parts.operations.now c.in_ok-parts.parts.shapes.now c.in_ok-parts.ensures.parts)
    c.in_ok-parts.ensures.distinct c.in_ok-rows.ensures.distinct
    (sound_entries c.in_ok-described.described.signs_by_v4 c.in_ok-parts.parts.operations.now c.in_ok-parts.parts.shapes.now c.in_ok-rows.rows.items c.in_ok-rows.shapes c.in_ok-rows.ensures.value)
    (subst (λ shapes. AllZip (IsAdmitted c.in_ok-described.described.metadata.protocol shapes) c.in_ok-rows.rows.items c.in_ok-operations.operations) c.as_slice.ensures c.in_ok-operations.ensures)

pub returns : goal.returns
unfolding draft_of
returns c = (
  (c.in_ok-described.described, (c.in_ok-rows.rows.items, c.in_ok-rows.shapes)),
  then_gives _ _ _ _ c.in_ok-parts.ensures.parts (then_gives _ _ _ _ c.in_ok-described.ensures (then_gives _ _ _ _ c.in_ok-rows.ensures.value refl)),
  (refl, refl, (subst (λ shapes. AllZip (IsAdmitted c.in_ok-described.described.metadata.protocol shapes) c.in_ok-rows.rows.items c.in_ok-operations.operations) c.as_slice.ensures c.in_ok-operations.ensures)),
)
