-- What is due of a value is a message or a fault that names a member, never want of memory.
use Rattle.std.proofs.Common.{◌≡◌, ◌⊎◌, inl, inr, ℕ, Bool, true, false, List, [], ◌∷◌, ◌++◌, Option, None, Some, refl, if◌then◌else◌}
use Rattle.std.specs.Prelude.{Result, Ok, Err, not, ◌&&◌, bytes_eq}
use Rattle.aws_world.specs.declared.message.Message.{Message}
use Rattle.endpoint_rules.specs.declared.endpoint.Endpoint.{Endpoint}
use Rattle.service_model.specs.declared.model.Table.{Table}
use Rattle.service_model.specs.declared.operation.Operation.{Operation}
use Rattle.service_model.specs.declared.shape.Member.{Member}
use Rattle.service_model.specs.Admission.{members_at}
use Rattle.texts.specs.Calls.{◌>>=◌}
use Rattle.typed_value.specs.declared.typed.Typed.{Typed}
use Rattle.serializer.specs.declared.encode_fault.EncodeFault.{EncodeFault}
use Rattle.serializer.specs.declared.encode_fault.EncodeFault.TheVariants.{EmptyLabel, BadHostLabel, TimeOutOfRange, BadHeaderText}
use Rattle.serializer.specs.Faults.{Asked, Fields, label_fault, is_lost_as, is_lost_member, fills_label, parts_fault, checked, headers_of, with_member, headers_from}
use Rattle.endpoint_rules.specs.HostLabels.{is_label}
use Rattle.service_model.specs.declared.shape.TimeForm.TheVariants.{Iso8601}
use Rattle.serializer.specs.declared.labels.Labelled.TheVariants.{Host}
use Rattle.serializer.specs.Labels.{has_label, member_text}
use Rattle.serializer.specs.Laws.{IsFaultOf}
use Rattle.serializer.specs.Messages.{asked_of, encoded_by, encoded, first_headers, headers_due, host_of}
use Rattle.std.specs.Option.{option_or}

abbrev IsNamed : EncodeFault → Type 0
IsNamed fault = (name : List ℕ) × IsFaultOf name fault

-- it is a value, or a fault that names a member
abbrev IsOutcome : {A : Type 0} → Result A EncodeFault → Type 0
IsOutcome (Ok x) = Unit {0}
IsOutcome (Err fault) = IsNamed fault

-- there is no fault, or one that names a member
abbrev IsNone : Option EncodeFault → Type 0
IsNone None = Unit {0}
IsNone (Some fault) = IsNamed fault

then_so : {A B : Type 0} (r : Result A EncodeFault) (f : A → Result B EncodeFault) → IsOutcome r → ((x : A) → IsOutcome (f x)) → IsOutcome (r >>= f)
then_so (Ok x) f h each = each x
then_so (Err fault) f h each = h

one_of : (b : Bool) (o p : Option EncodeFault) → IsNone o → IsNone p → IsNone (if b then o else p)
one_of true o p h k = h
one_of false o p h k = k

first_of : (o p : Option EncodeFault) → IsNone o → IsNone p → IsNone (option_or o p)
first_of None p h k = k
first_of (Some fault) p h k = h

label_form : (is_empty is_lost is_bad : Bool) (name : List ℕ)
    → IsNone (if is_empty then (if is_lost then None else Some (EmptyLabel name)) else if is_bad then Some (BadHostLabel name) else None)
label_form true true is_bad name = tt
label_form true false is_bad name = (name, inl refl)
label_form false is_lost true name = (name, inr (inl refl))
label_form false is_lost false name = tt

label_so : (asked : Asked) (m : Member) → IsNone (label_fault asked m)
label_so asked m =
    let text = member_text asked.table.shapes asked.fields m in
    label_form (bytes_eq text []) (is_lost_as asked Iso8601 m) (has_label Host asked.host m && not (is_label text)) m.name

parts_so : (asked : Asked) (m : Member) → IsNone (parts_fault asked m)
parts_so asked m =
    first_of (if fills_label asked m then label_fault asked m else None) (if is_lost_member asked m then Some (TimeOutOfRange m.name) else None)
    (one_of (fills_label asked m) (label_fault asked m) None (label_so asked m) tt)
    (one_of (is_lost_member asked m) (Some (TimeOutOfRange m.name)) None (m.name, inr (inr (inl refl))) tt)

bad_so : (b : Bool) (name : List ℕ) (hs : Fields) → IsOutcome {A = Fields} (if b then Err (BadHeaderText name) else Ok hs)
bad_so true name hs = (name, inr (inr (inr refl)))
bad_so false name hs = tt

found_so : (found : Option EncodeFault) (r : Result Fields EncodeFault) → IsNone found → IsOutcome r
    → IsOutcome (elim found [ None ↦ r | Some f ↦ Err f ])
found_so None r h k = k
found_so (Some f) r h k = h

member_so : (asked : Asked) (hs : Fields) (m : Member) → IsOutcome (with_member asked hs m)
member_so asked hs m =
    found_so (parts_fault asked m) (checked hs (headers_of asked m) m.name) (parts_so asked m) (bad_so _ m.name (hs ++ headers_of asked m))

headers_so : (asked : Asked) (hs : Fields) (ms : List Member) → IsOutcome (headers_from asked hs ms)
headers_so asked hs [] = tt
headers_so asked hs (m ∷ ms) =
    then_so (with_member asked hs m) (λ more. headers_from asked more ms) (member_so asked hs m) (λ more. headers_so asked more ms)

due_so : (asked : Asked) (host : List ℕ) → IsOutcome (headers_due asked host)
due_so asked host = then_so (headers_from asked (first_headers asked host) (members_at asked.table.shapes asked.op.input)) _ (headers_so asked _ _) (λ hs. tt)

encoded_so : (asked : Asked) (e : Endpoint) → IsOutcome (encoded_by asked e)
encoded_so asked e = then_so (headers_due asked (host_of asked e)) _ (due_so asked (host_of asked e)) (λ hs. tt)

told : (r : Result Message EncodeFault) → IsOutcome r
    → ((m : Message) × (r ≡ Ok m)) ⊎ ((name : List ℕ) × (fault : EncodeFault) × IsFaultOf name fault × (r ≡ Err fault))
told (Ok m) h = inl (m, refl)
told (Err fault) h = inr (h.0, fault, h.1, refl)

pub have_outcome : (table : Table) (op : Operation) (value : Typed) (e : Endpoint)
    → ((m : Message) × (encoded table op value e ≡ Ok m))
    ⊎ ((name : List ℕ) × (fault : EncodeFault) × IsFaultOf name fault × (encoded table op value e ≡ Err fault))
have_outcome table op value e = told (encoded table op value e) (encoded_so (asked_of table op value) e)
