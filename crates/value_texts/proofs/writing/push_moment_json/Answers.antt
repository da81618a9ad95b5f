use Rattle.std.proofs.Common.{inl, inr}
use Rattle.std.proofs.lemmas.Int.{to_z-of_z}
use mir.Syntax.{w64}
use Rattle.service_model.specs.declared.shape.TimeForm.TheVariants as form
use Rattle.value_texts.specs.Scalars.{moment_text}
use Rattle.value_texts.proofs.JsonParts.{compact-Str}
use Rattle.value_texts.proofs.writing.push_moment_json.Goals as goal

pub returns-in-Rfc822 : goal.returns-in-Rfc822
returns-in-Rfc822 c =
    let moment = c.args.moment in
    elim c.in-Rfc822.is [
      | inl is ↦ rw (is, compact-Str (moment_text form.Rfc822 moment)) (rw (is, to_z-of_z w64 moment c.ranges.moment) at c.push_quoted_moment.ensures)
      | inr is ↦ rw (is, compact-Str (moment_text form.Iso8601 moment)) (rw (is, to_z-of_z w64 moment c.ranges.moment) at c.push_quoted_moment.ensures)
    ]
