use Rattle.serializer.proofs.SoundNames.{named_headers}
use Rattle.serializer.proofs.laws.headers_are_named.Goals as goal

pub returns : goal.returns
returns c = named_headers
