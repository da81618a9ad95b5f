use Rattle.std.specs.Prelude.{ℕ, List, [], ◌∷◌}
use Rattle.std.specs.List.{flat_map}
use Rattle.out_format.specs.declared.cell.Cell.{Cell}
use Rattle.out_format.specs.declared.cell.Cell.TheVariants.{Empty, Key, Value}

abbrev pub cell_text : Cell → List ℕ
cell_text Empty = []
cell_text (Key text) = text
cell_text (Value text) = text

abbrev pub value_of : Cell → List (List ℕ)
value_of Empty = []
value_of (Key text) = []
value_of (Value text) = text ∷ []

-- the texts of scalars that stand in these cells
abbrev pub values : List Cell → List (List ℕ)
values cells = flat_map value_of cells
