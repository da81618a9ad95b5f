use Rattle.typed_value.proofs.Agreeing.{fits_alone}
use Rattle.typed_value.proofs.laws.fits_without_faults.Goals as goal

pub returns : goal.returns
returns c = fits_alone
