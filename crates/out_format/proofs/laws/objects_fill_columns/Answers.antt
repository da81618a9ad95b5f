use Rattle.std.proofs.lemmas.List.{length-map}
use Rattle.out_format.specs.Layers.{fields_in}
use Rattle.out_format.specs.Members.{sorted, cell_at}
use Rattle.out_format.proofs.laws.objects_fill_columns.Goals as goal

pub returns : goal.returns
returns c = λ columns layer. length-map columns (cell_at (sorted (fields_in layer)))
