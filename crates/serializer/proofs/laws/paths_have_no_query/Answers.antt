use Rattle.serializer.proofs.PathMarks.{no_query}
use Rattle.serializer.proofs.laws.paths_have_no_query.Goals as goal

pub returns : goal.returns
returns c = no_query
