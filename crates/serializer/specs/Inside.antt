-- Words of private contracts: a request of the code, as the definitions have it.
use Rattle.serializer.specs.declared.request.Request.{Request}
use Rattle.serializer.specs.Faults.{Asked}

abbrev pub asked : Request → Asked
asked r = record { table = r.model.now; op = r.op.now; fields = r.fields.now; path = r.path.now; host = r.host.now }
