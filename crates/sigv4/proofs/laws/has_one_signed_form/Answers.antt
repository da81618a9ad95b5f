use Rattle.sigv4.proofs.OneForms.{has_one_signed_form}
use Rattle.sigv4.proofs.laws.has_one_signed_form.Goals as goal

pub returns : goal.returns
returns c = has_one_signed_form
