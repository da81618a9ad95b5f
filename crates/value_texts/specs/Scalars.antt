-- Values without parts, as texts.
use Rattle.std.specs.Prelude.{ℕ, ℤ, List, []}
use Rattle.std.specs.Fmt.{signed_decimal}
use Rattle.base64.specs.Engines.{standard}
use Rattle.base64.specs.GeneralPurpose.{encode_of}
use Rattle.json_doc.specs.Compact.{flag_text}
use Rattle.json_doc.specs.DecimalText.{decimal_text}
use Rattle.service_model.specs.declared.shape.Shape.{Shape}
use Rattle.service_model.specs.declared.shape.TimeForm.{TimeForm}
use Rattle.service_model.specs.declared.shape.TimeForm.TheVariants as form
use Rattle.time_texts.specs.Texts.{unix_seconds, iso8601_text, rfc822_text}
use Rattle.typed_value.specs.declared.typed.Typed.{Typed, out-Typed}
use Rattle.typed_value.specs.declared.typed.Typed.TheOpen.{Typed-F}
use Rattle.value_texts.specs.declared.slot.Slot.{Slot}
use Rattle.value_texts.specs.Slots.{form_at}

-- bytes in base64 (RFC 4648, section 4), which is ASCII
abbrev pub base64_text : List ℕ → List ℕ
base64_text bytes = encode_of standard bytes

abbrev pub moment_text : TimeForm → ℤ → List ℕ
moment_text form.Unix t = signed_decimal (unix_seconds t)
moment_text form.Rfc822 t = rfc822_text t
moment_text form.Iso8601 t = iso8601_text t

-- a value as it stands outside JSON; one with parts has no such text
abbrev pub scalar_text : {X : Type 0} → TimeForm → Typed-F X → List ℕ
scalar_text form (Typed-F.Text t) = t
scalar_text form (Typed-F.Int n) = signed_decimal n
scalar_text form (Typed-F.Number n) = decimal_text n
scalar_text form (Typed-F.Flag flag) = flag_text flag
scalar_text form (Typed-F.Blob bytes) = base64_text bytes
scalar_text form (Typed-F.Moment t) = moment_text form t
scalar_text form others = []

-- the same where the value stands, with the form of times that is usual in that part of the request
abbrev pub text_at : List Shape → TimeForm → Slot → Typed → List ℕ
text_at shapes usual slot value = scalar_text (form_at shapes usual slot) (out-Typed value)
