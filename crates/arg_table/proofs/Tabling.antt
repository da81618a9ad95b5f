-- The table of an operation with an input.
use Rattle.std.proofs.Common.{◌≡◌, ◌<◌, List, length, Option, None, Some, refl, sym, ap, ◌∙◌}
use Rattle.std.specs.Prelude.{slice_get, option_map, option_and_then}
use Rattle.model_files.specs.declared.paginators.PagerRow.{PagerRow}
use Rattle.service_model.specs.declared.operation.Operation.{Operation}
use Rattle.service_model.specs.declared.shape.Kind.{Kind}
use Rattle.service_model.specs.declared.shape.Shape.{Shape}
use Rattle.service_model.specs.declared.shape.ShapeId.{ShapeId}
use Rattle.service_model.specs.Arguments.{kind_of}
use Rattle.std.proofs.lemmas.Option.{slice_get_within}
use Rattle.arg_table.specs.declared.table.ArgTable.{ArgTable}
use Rattle.arg_table.specs.declared.table.Argument.{Argument}
use Rattle.arg_table.specs.declared.table.Paging.{Paging}
use Rattle.arg_table.specs.Tables.{arguments_in, paging_of, table_of}

-- a shape with a kind is there
pub kind_within : (shapes : List Shape) (id : ShapeId) (kind : Kind) → kind_of shapes id ≡ Some kind → id.0 < length shapes
kind_within shapes id kind is = by (slice_get shapes id.0) (slice_get_within shapes id.0) is
  where
    by : (found : Option Shape) → ((shape : Shape) → found ≡ Some shape → id.0 < length shapes) → option_map (λ shape. shape.kind) found ≡ Some kind
        → id.0 < length shapes
    by None within none = absurd (cc)
    by (Some shape) within some = within shape refl

abbrev table_with : List Argument → Paging → ArgTable
table_with arguments paging = record { arguments = arguments; paging = paging }

pub table_of_input : (shapes : List Shape) (op : Operation) (row : Option PagerRow) (id : ShapeId) (shape : Shape) (arguments : List Argument) (paging : Paging)
    → op.input ≡ Some id → slice_get shapes id.0 ≡ Some shape → arguments ≡ arguments_in shapes row (Some shape) → paging ≡ paging_of row
    → table_with arguments paging ≡ table_of shapes op row
table_of_input shapes op row id shape arguments paging is at made pages =
    ap (table_with arguments) pages ∙ ap (λ given. table_with given (paging_of row)) (made
    ∙ sym (ap (λ input. arguments_in shapes row (option_and_then (λ i. slice_get shapes i.0) input)) is ∙ ap (arguments_in shapes row) at))
