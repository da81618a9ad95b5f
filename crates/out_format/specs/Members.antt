-- The members of objects in the order of their keys, and the cells that their scalars fill.
use Rattle.std.specs.Prelude.{ℕ, if◌then◌else◌, List, [], ◌∷◌, map, filter, Option, None, Some, is_some, option_to_list}
use Rattle.std.specs.List.{flat_map}
use Rattle.std.specs.Ordering.{match_ordering, is_eq}
use Rattle.texts.specs.declared.pairs.Pair.{Pair}
use Rattle.texts.specs.Keys.{keys}
use Rattle.texts.specs.Order.{text_cmp}
use Rattle.out_format.specs.Layers.{Layer, fields_in}
use Rattle.out_format.specs.declared.cell.Cell.{Cell}
use Rattle.out_format.specs.declared.cell.Cell.TheVariants.{Empty, Value}

-- a member put into its place among ascending ones, in place of one at the same key
abbrev pub placed : {X : Type 0} → List (Pair X) → Pair X → List (Pair X)
placed [] p = p ∷ []
placed (q ∷ qs) p = match_ordering (text_cmp p.key q.key) (p ∷ q ∷ qs) (p ∷ qs) (q ∷ placed qs p)

abbrev pub all_placed : {X : Type 0} → List (Pair X) → List (Pair X) → List (Pair X)
all_placed done [] = done
all_placed done (p ∷ ps) = all_placed (placed done p) ps

-- members in the order of their keys, each key once
abbrev pub sorted : {X : Type 0} → List (Pair X) → List (Pair X)
sorted ps = all_placed [] ps

-- the members of an object that are scalars
abbrev pub scalar_members : Layer → List (Pair (Option (List ℕ)))
scalar_members layer = filter (λ p. is_some p.value) (fields_in layer)

-- the keys that are scalar in some object, sorted
abbrev pub columns : List Layer → List (List ℕ)
columns layers = keys (sorted (flat_map scalar_members layers))

-- what stands at a key
abbrev pub member_at : {X : Type 0} → List ℕ → List (Pair X) → Option X
member_at k [] = None
member_at k (p ∷ ps) = if is_eq (text_cmp k p.key) then Some p.value else member_at k ps

-- the cell of a value; one that is absent or no scalar leaves it empty
abbrev pub cell_of : Option (Option (List ℕ)) → Cell
cell_of (Some (Some text)) = Value text
cell_of (Some None) = Empty
cell_of None = Empty

abbrev pub cell_at : List (Pair (Option (List ℕ))) → List ℕ → Cell
cell_at members column = cell_of (member_at column members)

-- an object's cells, one for each column
abbrev pub object_cells : List (List ℕ) → Layer → List Cell
object_cells columns layer = map (cell_at (sorted (fields_in layer))) columns

-- the texts of those members that are scalars
abbrev pub texts : List (Pair (Option (List ℕ))) → List (List ℕ)
texts members = flat_map (λ p. option_to_list p.value) members
