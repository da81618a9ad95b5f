-- Words of private contracts alone; no public contract cites them: how the table of a value is laid and cut.
use Rattle.std.specs.Prelude.{◌≡◌, List, ◌++◌}
use Rattle.typed_value.specs.declared.node.Node.{Node}
use Rattle.typed_value.specs.declared.typed.Typed.{Typed}
use Rattle.typed_value.specs.Tables.{AreNodes, root_of, IsTable}

-- the nodes of this value
abbrev pub IsTableOf : List Node → Typed → Type 0
IsTableOf ns v = IsTable ns × (root_of ns ≡ v)

-- the nodes of these values were put behind others
pub record AddsNodes (old : List Node) (values : List Typed) (new : List Node) : Type 0 where
  pub added : List Node
  pub whole : new ≡ old ++ added
  pub nodes : AreNodes added values
