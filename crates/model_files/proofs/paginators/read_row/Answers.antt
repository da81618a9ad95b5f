use Rattle.std.proofs.Common.{◌≡◌, ◌∙◌, ◌==◌, true, false, length, sym}
use Rattle.model_files.specs.Paginators.{row_of}
use Rattle.model_files.proofs.Each.{is_due}
use Rattle.model_files.proofs.paginators.read_row.Goals as goal

pub returns-then-not-are_as_many : goal.returns-then-not-are_as_many
unfolding row_of
returns-then-not-are_as_many c =
    let other : (length c.in_ok-inputs.inputs == length c.in_ok-outputs.outputs) ≡ false = sym c.are_as_many.ensures ∙ c.if-not-are_as_many.true in
    rw (c.in_ok-fields.ensures, c.in_ok-inputs.ensures, c.in_ok-outputs.ensures, other) (is_due _ _ _ c.wrong.ensures)

pub returns : goal.returns
unfolding row_of
returns c =
    let as_many : (length c.in_ok-inputs.inputs == length c.in_ok-outputs.outputs) ≡ true = sym c.are_as_many.ensures ∙ c.if-not-are_as_many.false in
    rw (c.in_ok-fields.ensures, c.in_ok-inputs.ensures, c.in_ok-outputs.ensures, as_many) c.row_with.ensures
