-- What a model file says as a whole.
use Rattle.std.specs.Prelude.{◌≡◌, ℕ, ◌≤◌, Bool, nat_le, List, [], ◌∷◌, if◌then◌else◌, map, length, Option, None, Some, Result, Ok, Err, IfSome, bytes_eq, codes}
use Rattle.std.specs.List.{AllZip, All}
use Rattle.json_doc.specs.declared.doc.Doc.{Doc}
use Rattle.texts.specs.Keys.{IsDistinct}
use Rattle.model_files.specs.declared.fault.ModelFault.{ModelFault}
use Rattle.model_files.specs.declared.fault.ModelFault.TheVariants.{WrongKind}
use Rattle.model_files.specs.declared.fault.Place.TheVariants.{At}
use Rattle.model_files.specs.Faults.{inside, demand, is_memory}
use Rattle.texts.specs.Calls.{◌>>=◌, Unless}
use Rattle.model_files.specs.Reading.{Fields, fields_of, object_at}
use Rattle.service_model.specs.declared.metadata.Described.{Described}
use Rattle.service_model.specs.declared.model.Table.{Table}
use Rattle.service_model.specs.declared.operation.Operation.{Operation}
use Rattle.service_model.specs.declared.operations.Row.{Row}
use Rattle.service_model.specs.declared.shape.Kind.TheVariants.{Str}
use Rattle.service_model.specs.declared.shape.Shape.{Shape}
use Rattle.service_model.specs.Admission.{IsAdmitted}
pub use Rattle.service_model.specs.Kept.{IsWithin, IsOfKind}
use Rattle.service_model.specs.Kept.{HasOwnNames, TellsWires, IsShape, IsOperation}
use Rattle.service_model.specs.Metadata.{metadata_of}
use Rattle.service_model.specs.Numbering.{names_of}
use Rattle.service_model.specs.Operations.{operations_of}
use Rattle.service_model.specs.Shapes.{shapes_of}

-- the three parts, in the order in which they are looked for
unfoldable pub parts_of : Doc → Result (Fields × Fields × Fields) ModelFault
parts_of doc = do
  fields ← fields_of doc
  metadata ← object_at (codes "metadata") fields
  operations ← object_at (codes "operations") fields
  shapes ← object_at (codes "shapes") fields
  demand (nat_le (length shapes) 1000000) (WrongKind (At (codes "shapes"))) (Ok (metadata, operations, shapes))

-- the operations and then the shapes
unfoldable pub entries_of : Bool → Fields → Fields → Result (List Row × List Shape) ModelFault
entries_of signs_by_v4 operations shapes = do
  rows ← inside (codes "operations") (operations_of (names_of shapes) shapes signs_by_v4 [] operations)
  table ← inside (codes "shapes") (shapes_of (names_of shapes) shapes)
  Ok (rows, table)

-- a model without what keeps its operations from being called
abbrev pub Draft : Type 0
Draft = Described × (List Row × List Shape)

-- what a model file says, or its first fault
unfoldable pub draft_of : Doc → Result Draft ModelFault
draft_of doc = do
  parts ← parts_of doc
  described ← inside (codes "metadata") (metadata_of parts.0)
  entries ← entries_of described.signs_by_v4 parts.1 parts.2
  Ok (described, entries)

abbrev pub IsModel : Draft → Table → Type 0
IsModel draft table =
    (table.metadata ≡ draft.0.metadata) × (table.shapes ≡ draft.1.1)
    × AllZip (IsAdmitted draft.0.metadata.protocol draft.1.1) draft.1.0 table.operations

-- the answer to a model file: its table, or its first fault
abbrev pub IsRead : Doc → Result Table ModelFault → Type 0
IsRead doc (Ok table) = (draft : Draft) × (draft_of doc ≡ Ok draft) × IsModel draft table
IsRead doc (Err fault) = Unless (is_memory fault) (draft_of doc ≡ Err fault)

-- the operation with a command name
abbrev pub operation_named : List ℕ → List Operation → Option Operation
operation_named command [] = None
operation_named command (o ∷ os) = if bytes_eq o.command command then Some o else operation_named command os

-- each number that a shape holds is that of a shape, and keys are strings
abbrev pub HasParts : List Shape → Shape → Type 0
HasParts shapes shape =
    All (λ m. IsWithin shapes m.shape) shape.members × IfSome shape.item (IsWithin shapes) × IfSome shape.key (IsOfKind Str shapes)

-- what a table that was read keeps: it misses no shape and no kind, and no name stands twice
pub record IsSound (table : Table) : Type 0 where
  pub few : length table.shapes ≤ 1000000
  pub shapes : All (IsShape table.shapes) table.shapes
  pub members : All (λ shape. HasOwnNames shape.members) table.shapes
  pub wires : All TellsWires table.shapes
  pub operations : All (IsOperation table.shapes) table.operations
  pub names : IsDistinct (map (λ shape. shape.name) table.shapes)
  pub commands : IsDistinct (map (λ op. op.command) table.operations)
