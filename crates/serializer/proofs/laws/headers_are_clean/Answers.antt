use Rattle.serializer.proofs.CleanHeaders.{clean_headers}
use Rattle.serializer.proofs.laws.headers_are_clean.Goals as goal

pub returns : goal.returns
returns c = clean_headers
