use Rattle.std.proofs.Common.{rules, sym, subst, w64}
use Rattle.std.specs.Int.RustNames.{FitsSigned}
use Rattle.std.proofs.lemmas.Int.{to_z-of_z}
use Rattle.moments.specs.Times.{Form}
use Rattle.moments.proofs.TimeForms.{civil_holds}
use Rattle.moments.proofs.forms.any_form.Goals as goal

pub returns-in-Some-clause-found : goal.returns-in-Some-clause-found
returns-in-Some-clause-found c =
    let fits : FitsSigned w64 c.in-Some.micros = search rules in
    subst (Form c.args.bytes.now) (sym (to_z-of_z w64 c.in-Some.micros fits)) (civil_holds c.args.bytes.now c.in-Some.micros c.in-Some.ensures)
