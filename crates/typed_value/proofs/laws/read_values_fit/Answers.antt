use Rattle.typed_value.proofs.Loosened.{fits_loosened}
use Rattle.typed_value.proofs.laws.read_values_fit.Goals as goal

pub returns : goal.returns
returns c = fits_loosened
