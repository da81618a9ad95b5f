-- The members of structures.
use Rattle.std.specs.Prelude.{ℕ, Bool, not, ◌&&◌, List, Option, None, Some, unwrap_or, Result, Ok, Err, codes}
use Rattle.json_doc.specs.declared.doc.Doc.{Doc}
use Rattle.texts.specs.declared.pairs.Pair.{Pair}
use Rattle.model_files.specs.declared.fault.ModelFault.{ModelFault}
use Rattle.model_files.specs.declared.fault.ModelFault.TheVariants.{WrongKind}
use Rattle.model_files.specs.declared.fault.Place.TheVariants.{At}
use Rattle.service_model.specs.declared.members.Roles.{Roles}
use Rattle.service_model.specs.declared.shape.Location.{Location}
use Rattle.service_model.specs.declared.shape.Member.{Member}
use Rattle.service_model.specs.declared.shape.ShapeId.{ShapeId}
use Rattle.service_model.specs.declared.shape.TimeForm.{TimeForm}
use Rattle.service_model.specs.Choices.{location_named, time_form_named}
use Rattle.model_files.specs.Faults.{inside, demand, each}
use Rattle.texts.specs.Calls.{◌>>=◌}
use Rattle.service_model.specs.Locations.{can_stand, is_scalar_shape}
use Rattle.service_model.specs.Numbering.{Names, reference}
use Rattle.model_files.specs.Reading.{Fields, fields_of, text_at, maybe_text, maybe_object, flag_at}

abbrev pub standing : Names → ShapeId → Option Location → Result (Option Location) ModelFault
standing names id None = Err (WrongKind (At (codes "location")))
standing names id (Some location) = demand (can_stand names id location) (WrongKind (At (codes "location"))) (Ok (Some location))

abbrev pub location_in : Names → ShapeId → Option (List ℕ) → Result (Option Location) ModelFault
location_in names id None = Ok None
location_in names id (Some name) = standing names id (location_named name)

-- where a member stands, which its shape must be able to
unfoldable pub location_of : Names → Fields → ShapeId → Result (Option Location) ModelFault
location_of names fields id = do
  name ← maybe_text (codes "location") fields
  location_in names id name

abbrev pub form_in : Option TimeForm → Result (Option TimeForm) ModelFault
form_in None = Err (WrongKind (At (codes "timestampFormat")))
form_in (Some form) = Ok (Some form)

unfoldable pub time_in : Option (List ℕ) → Result (Option TimeForm) ModelFault
time_in None = Ok None
time_in (Some name) = form_in (time_form_named name)

-- how a moment is written
unfoldable pub time_of : Fields → Result (Option TimeForm) ModelFault
time_of fields = do
  name ← maybe_text (codes "timestampFormat") fields
  time_in name

-- whether a member fills a label of the host prefix, which only a scalar can
unfoldable pub host_label_of : Names → Fields → ShapeId → Result Bool ModelFault
host_label_of names fields id = do
  is_label ← flag_at (codes "hostLabel") fields
  demand (not (is_label && not (is_scalar_shape names id))) (WrongKind (At (codes "hostLabel"))) (Ok is_label)

abbrev pub context_in : Option Fields → Result (Option (List ℕ)) ModelFault
context_in None = Ok None
context_in (Some context) = do
  name ← inside (codes "contextParam") (text_at (codes "name") context)
  Ok (Some name)

-- the parameter of endpoint rules that a member sets
unfoldable pub context_of : Fields → Result (Option (List ℕ)) ModelFault
context_of fields = do
  context ← maybe_object (codes "contextParam") fields
  context_in context

-- what a member is used for beside its value
unfoldable pub roles_of : Names → Fields → ShapeId → Result Roles ModelFault
roles_of names fields id = do
  token ← flag_at (codes "idempotencyToken") fields
  json_value ← flag_at (codes "jsonvalue") fields
  host_label ← host_label_of names fields id
  context ← context_of fields
  Ok (record { token = token; json_value = json_value; host_label = host_label; context = context })

-- a member with its shape and its place
unfoldable pub member_at : Names → Pair Doc → Fields → ShapeId → Option Location → Result Member ModelFault
member_at names p fields id location = do
  wire ← maybe_text (codes "locationName") fields
  time ← time_of fields
  roles ← roles_of names fields id
  Ok (record {
    name = p.key;
    wire = unwrap_or wire p.key;
    shape = id;
    location = location;
    time = time;
    token = roles.token;
    json_value = roles.json_value;
    host_label = roles.host_label;
    context = roles.context;
  })

unfoldable pub member_of : Names → Pair Doc → Result Member ModelFault
member_of names p = do
  fields ← fields_of p.value
  id ← reference names fields
  location ← location_of names fields id
  member_at names p fields id location

abbrev pub members_of : Names → Fields → Result (List Member) ModelFault
members_of names ps = each (member_of names) ps
