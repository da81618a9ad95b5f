-- Words of private contracts alone; no public contract cites them: what is found of all shapes before
-- operations are admitted, and what is known of an input's arguments before two of them are compared.
use Rattle.std.specs.Prelude.{◌≡◌, ◌↔◌, ℕ, Bool, false, ◌&&◌, IsTrue, List, slice_index_or, Option, None, Some, nat_lt, count_by, bytes_eq}
use Rattle.std.specs.List.{list_any}
use Rattle.service_model.specs.declared.admission.Findings.{Findings}
use Rattle.service_model.specs.declared.arguments.Argument.{Argument}
use Rattle.service_model.specs.declared.arguments.Usage.{Usage}
use Rattle.service_model.specs.declared.operations.Row.{Row}
use Rattle.service_model.specs.declared.shape.Shape.{Shape}
use Rattle.service_model.specs.declared.shape.ShapeId.{ShapeId}
use Rattle.service_model.specs.Admission.{has_stray_json, members_at}
use Rattle.service_model.specs.Arguments.{negation_of, shared_argument}
use Rattle.service_model.specs.Reach.{Reaches}

-- the name that two members of the input share, by what is found of each shape
abbrev pub shared_at : List (Option (List ℕ)) → Option ShapeId → Option (List ℕ)
shared_at shared None = None
shared_at shared (Some id) = slice_index_or shared id.0 None

-- there is a shape, and it is marked
abbrev pub marked_at : List Bool → Option ShapeId → Bool
marked_at marks None = false
marked_at marks (Some id) = slice_index_or marks id.0 false

-- what is found of the shapes, as far as an operation needs it
pub record IsFindings (shapes : List Shape) (row : Row) (findings : Findings) : Type 0 where
  pub events : (from : ShapeId) → IsTrue (slice_index_or findings.events.items from.0 false) ↔ Reaches shapes (λ shape. IsTrue shape.events) from
  pub json_values : (from : ShapeId) → IsTrue (slice_index_or findings.json_values.items from.0 false) ↔ Reaches shapes (λ shape. IsTrue (has_stray_json shapes shape)) from
  pub shared : shared_at findings.shared.items row.input ≡ shared_argument shapes (members_at shapes row.input)

-- what is known of arguments: their names, the names of two or more, and the `no-` forms of flags
pub record IsUsage (arguments : List Argument) (usage : Usage) : Type 0 where
  pub named : (text : List ℕ) → list_any (bytes_eq text) usage.names.keys ≡ list_any (λ a. bytes_eq text a.name) arguments
  pub repeated : (text : List ℕ) → list_any (bytes_eq text) usage.repeated.keys ≡ nat_lt 1 (count_by (λ a. bytes_eq text a.name) arguments)
  pub negated : (text : List ℕ) → list_any (bytes_eq text) usage.negations.keys ≡ list_any (λ a. a.is_flag && bytes_eq text (negation_of a.name)) arguments
