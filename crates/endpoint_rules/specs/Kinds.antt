-- A value by the kind that its place needs. Null is of every kind: there is nothing then.
use Rattle.std.specs.Prelude.{ℕ, Bool, true, false, not, ◌&&◌, nat_eq, if◌then◌else◌, List, Option, None, Some, Result, Ok, Err}
use Rattle.json_doc.specs.declared.decimal.Decimal.{Decimal}
use Rattle.json_doc.specs.declared.doc.Doc.{Doc}
use Rattle.json_doc.specs.declared.doc.Doc.TheOpen.{Doc-F}
use Rattle.json_doc.specs.declared.doc.Doc.TheViews.{out-Doc}
use Rattle.endpoint_rules.specs.declared.stop.Stop.{Stop}
use Rattle.endpoint_rules.specs.declared.stop.Stop.TheVariants.{Clash}

abbrev pub text_kind : Doc-F Doc → Result (Option (List ℕ)) Stop
text_kind Doc-F.Null = Ok None
text_kind (Doc-F.Str t) = Ok (Some t)
text_kind others = Err Clash

-- a text, where a text is needed
abbrev pub text_or_null : Doc → Result (Option (List ℕ)) Stop
text_or_null value = text_kind (out-Doc value)

abbrev pub flag_kind : Doc-F Doc → Result (Option Bool) Stop
flag_kind Doc-F.Null = Ok None
flag_kind (Doc-F.Flag b) = Ok (Some b)
flag_kind others = Err Clash

-- a truth value, where one is needed
abbrev pub flag_or_null : Doc → Result (Option Bool) Stop
flag_or_null value = flag_kind (out-Doc value)

-- a decimal that is a whole number from 0 on
abbrev pub whole_number : Decimal → Option ℕ
whole_number n = if nat_eq n.scale 0 && not n.is_negative then Some n.magnitude else None

abbrev pub whole_or_clash : Option ℕ → Result (Option ℕ) Stop
whole_or_clash None = Err Clash
whole_or_clash (Some n) = Ok (Some n)

abbrev pub whole_kind : Doc-F Doc → Result (Option ℕ) Stop
whole_kind Doc-F.Null = Ok None
whole_kind (Doc-F.Number n) = whole_or_clash (whole_number n)
whole_kind others = Err Clash

-- a place in a text, where one is needed
abbrev pub whole_or_null : Doc → Result (Option ℕ) Stop
whole_or_null value = whole_kind (out-Doc value)

abbrev pub holds_in : Doc-F Doc → Bool
holds_in Doc-F.Null = false
holds_in (Doc-F.Flag b) = b
holds_in others = true

-- "Conditions": one holds where its value is neither null nor false
abbrev pub holds : Doc → Bool
holds value = holds_in (out-Doc value)
