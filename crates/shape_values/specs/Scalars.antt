-- The values of texts at shapes without parts.
use Rattle.std.specs.Prelude.{ℕ, ℤ, ◌+◌, ◌^◌, ◌==◌, ◌&&◌, nat_lt, Bool, true, false, if◌then◌else◌, List, [], ◌∷◌, length, map, Option, None, Some, option_map, Ok, Err, bytes_eq, codes, encode_utf8_all}
use Rattle.std.specs.Char.{is_ascii_digit, to_ascii_lowercase}
use Rattle.std.specs.List.{list_all}
use Rattle.std.specs.Str.Parse.{digits_value}
use Rattle.json_doc.specs.DecimalValue.{signed}
use Rattle.service_model.specs.declared.shape.Kind.{Kind}
use Rattle.service_model.specs.declared.shape.Kind.TheVariants as kind
use Rattle.typed_value.specs.declared.typed.Typed.{Typed}
use Rattle.typed_value.specs.declared.typed.Typed.TheVariants as typed
use Rattle.shape_values.specs.declared.fault.ValueKind.{ValueKind}
use Rattle.shape_values.specs.declared.fault.ValueKind.TheVariants as fault
use Rattle.shape_values.specs.Faults.{Outcome, here}
use Rattle.shape_values.specs.Instants.{Instants}

-- a value, where there is one
abbrev pub or_bad : {A : Type 0} → ValueKind → Option A → Outcome A
or_bad bad None = Err (here bad)
or_bad bad (Some x) = Ok x

-- a whole number of 64 bits, with a minus where it is below 0
abbrev pub in_64_bits : Bool → ℕ → Option ℤ
in_64_bits is_negative n = if nat_lt n (if is_negative then 2 ^ 63 + 1 else 2 ^ 63) then Some (signed is_negative n) else None

-- decimal digits, of which leading ones may be zeros
abbrev pub are_digits : List ℕ → Bool
are_digits digits = nat_lt 0 (length digits) && list_all is_ascii_digit digits

abbrev pub number_of : Bool → List ℕ → Option ℤ
number_of is_negative digits = if are_digits digits then in_64_bits is_negative (digits_value 10 digits) else None

-- digits with a minus before them, or without
abbrev pub whole_of : List ℕ → Option ℤ
whole_of [] = None
whole_of (c ∷ cs) = if c == 45 then number_of true cs else number_of false (c ∷ cs)

-- `true` or `false`, in letters of any case
abbrev pub flag_of : List ℕ → Option Bool
flag_of bytes =
    if bytes_eq (map to_ascii_lowercase bytes) (codes "true") then Some true else
    if bytes_eq (map to_ascii_lowercase bytes) (codes "false") then Some false else None

abbrev pub time_value : Option ℤ → Outcome Typed
time_value instant = or_bad fault.Time (option_map typed.Moment instant)

-- A text at a shape without parts. A list is no such shape, nor is a structure or a map, where one text is
-- no value.
abbrev pub scalar_of : Instants → Kind → List ℕ → Outcome Typed
scalar_of instants kind.Str t = Ok (typed.Text t)
scalar_of instants kind.Integer t = or_bad fault.Number (option_map typed.Int (whole_of (encode_utf8_all t)))
scalar_of instants kind.Long t = or_bad fault.Number (option_map typed.Int (whole_of (encode_utf8_all t)))
scalar_of instants kind.Float t = Err (here fault.Float)
scalar_of instants kind.Double t = Err (here fault.Float)
scalar_of instants kind.Boolean t = or_bad fault.Flag (option_map typed.Flag (flag_of (encode_utf8_all t)))
scalar_of instants kind.Blob t = Ok (typed.Blob (encode_utf8_all t))
scalar_of instants kind.Timestamp t = time_value (instants (encode_utf8_all t))
scalar_of instants kind.List t = Err (here fault.ExpectedOne)
scalar_of instants kind.Structure t = Err (here fault.ExpectedOne)
scalar_of instants kind.Map t = Err (here fault.ExpectedOne)
