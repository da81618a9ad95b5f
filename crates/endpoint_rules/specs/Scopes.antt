-- What the conditions and the answer of a leaf see.
use Rattle.std.specs.Prelude.{ℕ, List, Option, unwrap_or}
use Rattle.std.specs.Option.{option_or}
use Rattle.json_doc.specs.declared.doc.Doc.{Doc}
use Rattle.json_doc.specs.declared.doc.Doc.TheVariants as doc
use Rattle.texts.specs.declared.pairs.Pair.{Pair}
use Rattle.texts.specs.Keys.{value_at, put}
use Rattle.rule_sets.specs.declared.partitions.Partition.{Partition}
use Rattle.endpoint_rules.specs.declared.scope.Scope.{Scope}

-- the partitions, the parameters that have a value, and what conditions assigned
pub record Env : Type 0 where
  pub partitions : List Partition
  pub given : List (Pair Doc)
  pub assigned : List (Pair Doc)

abbrev pub seen_scope : Scope → Env
seen_scope scope = record { partitions = scope.partitions.now; given = scope.given.now; assigned = scope.assigned }

-- what stands under a name; an assigned value hides a parameter
abbrev pub found_named : List ℕ → Env → Option Doc
found_named name env = option_or (value_at name env.assigned) (value_at name env.given)

-- a name that has no value is null
abbrev pub value_named : List ℕ → Env → Doc
value_named name env = unwrap_or (found_named name env) doc.Null

abbrev pub assigned_too : List ℕ → Doc → Env → Env
assigned_too name value env = record env { assigned = put env.assigned name value }
