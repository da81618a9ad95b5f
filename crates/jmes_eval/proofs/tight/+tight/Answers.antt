use Rattle.jmes_eval.proofs.TightTexts.{tight-Fields}
use Rattle.std.proofs.Common.{arith}
use Rattle.std.proofs.lemmas.Grind.{common_steps}
use Rattle.jmes_eval.proofs.tight.+tight.Goals as goal

pub write_doc-returns-in_ok-write_fields-in-Fields : goal.write_doc-returns-in_ok-write_fields-in-Fields
write_doc-returns-in_ok-write_fields-in-Fields t c =
    let e = tight-Fields c.in-Fields.fields in
    grind (arith, common_steps, e)
