-- The texts of model files that name one of a few choices.
use Rattle.std.specs.Prelude.{ℕ, ◌||◌, if◌then◌else◌, List, Option, None, Some, bytes_eq, codes}
use Rattle.service_model.specs.declared.shape.Kind.{Kind}
use Rattle.service_model.specs.declared.shape.Kind.TheVariants as kind
use Rattle.service_model.specs.declared.shape.Location.{Location}
use Rattle.service_model.specs.declared.shape.Location.TheVariants as location
use Rattle.service_model.specs.declared.shape.TimeForm.{TimeForm}
use Rattle.service_model.specs.declared.shape.TimeForm.TheVariants as form

-- the kind of numbers that a `type` names
abbrev pub number_named : List ℕ → Option Kind
number_named t =
    if bytes_eq t (codes "integer") then Some kind.Integer else
    if bytes_eq t (codes "long") || bytes_eq t (codes "bigInteger") then Some kind.Long else
    if bytes_eq t (codes "float") then Some kind.Float else
    if bytes_eq t (codes "double") || bytes_eq t (codes "bigDecimal") then Some kind.Double else None

-- the kind that a `type` names
abbrev pub kind_named : List ℕ → Option Kind
kind_named t =
    if bytes_eq t (codes "structure") then Some kind.Structure else
    if bytes_eq t (codes "list") then Some kind.List else
    if bytes_eq t (codes "map") then Some kind.Map else
    if bytes_eq t (codes "string") || bytes_eq t (codes "character") then Some kind.Str else
    if bytes_eq t (codes "boolean") then Some kind.Boolean else
    if bytes_eq t (codes "blob") then Some kind.Blob else
    if bytes_eq t (codes "timestamp") then Some kind.Timestamp else number_named t

-- the place that a `location` names
abbrev pub location_named : List ℕ → Option Location
location_named t =
    if bytes_eq t (codes "uri") then Some location.Uri else
    if bytes_eq t (codes "querystring") then Some location.Querystring else
    if bytes_eq t (codes "header") then Some location.Header else
    if bytes_eq t (codes "headers") then Some location.Headers else
    if bytes_eq t (codes "statusCode") then Some location.StatusCode else None

-- the form that a `timestampFormat` names
abbrev pub time_form_named : List ℕ → Option TimeForm
time_form_named t =
    if bytes_eq t (codes "unixTimestamp") then Some form.Unix else
    if bytes_eq t (codes "rfc822") then Some form.Rfc822 else
    if bytes_eq t (codes "iso8601") then Some form.Iso8601 else None
