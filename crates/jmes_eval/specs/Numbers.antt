-- Numbers as exact decimals, and the functions on them (JMESPath specification, "Built-in Functions").
use Rattle.std.specs.Prelude.{ℕ, suc, ◌+◌, ◌/◌, ◌%◌, ◌^◌, ◌==◌, Bool, true, false, ◌&&◌, not, if◌then◌else◌, ℤ, pos, negsuc, ◌+ℤ◌, List, [], ◌∷◌, fold, Option, None, Some, Ok, Err, encode_utf8_all}
use Rattle.std.specs.List.{list_any}
use Rattle.std.specs.Option.{option_and_then}
use Rattle.json_doc.specs.declared.decimal.Decimal.{Decimal}
use Rattle.json_doc.specs.declared.doc.Doc as doc
use Rattle.json_doc.specs.declared.doc.Doc.{Doc}
use Rattle.json_doc.specs.declared.doc.Doc.TheOpen.{Doc-F}
use Rattle.json_doc.specs.declared.doc.Doc.TheViews.{out-Doc}
use Rattle.json_doc.specs.DecimalValue.{numerator}
use Rattle.json_doc.specs.Exact.{Exact, exact}
use Rattle.json_doc.specs.Grammar.{is_blank}
use Rattle.json_doc.specs.NumberToken.{Number, number_at, value_of}
use Rattle.json_doc.specs.Reading.{Read}
use Rattle.json_doc.specs.Scan.{begins_number}
use Rattle.jmes_eval.specs.Answers.{Answer, due, as_number, all_of}
use Rattle.texts.specs.Calls.{◌>>=◌}
use Rattle.jmes_eval.specs.Kinds.{number_of, items_of}
use Rattle.jmes_eval.specs.Fractions.{decimal_of}

-- a whole number
abbrev pub whole : Bool → ℕ → Exact
whole is_negative size = exact is_negative size 0 0

-- a count, as a number
abbrev pub count_of : ℕ → Answer Doc
count_of n = as_number (decimal_of (whole false n))

-- "abs": the absolute value
abbrev pub size_of : Decimal → Exact
size_of n = exact false n.magnitude 0 n.scale

abbrev pub abs_of : Doc → Answer Doc
abs_of d = due (number_of d) >>= (λ n. as_number (decimal_of (size_of n)))

-- m / 10^p without its places, and the next whole number where it has some
abbrev pub cut_off : ℕ → ℕ → ℕ
cut_off m p = m / 10 ^ p

abbrev pub filled_up : ℕ → ℕ → ℕ
filled_up m p = if m % 10 ^ p == 0 then m / 10 ^ p else m / 10 ^ p + 1

-- "floor": the next lower whole number, where it is none itself
abbrev pub floor_value : Decimal → Exact
floor_value n = whole n.is_negative (if n.is_negative then filled_up n.magnitude n.scale else cut_off n.magnitude n.scale)

abbrev pub floor_of : Doc → Answer Doc
floor_of d = due (number_of d) >>= (λ n. as_number (decimal_of (floor_value n)))

-- "ceil": the next higher one
abbrev pub ceil_value : Decimal → Exact
ceil_value n = whole n.is_negative (if n.is_negative then cut_off n.magnitude n.scale else filled_up n.magnitude n.scale)

abbrev pub ceil_of : Doc → Answer Doc
ceil_of d = due (number_of d) >>= (λ n. as_number (decimal_of (ceil_value n)))

-- a whole number over 10^p
abbrev pub over : ℤ → ℕ → Exact
over (pos n) p = exact false n 0 p
over (negsuc n) p = exact true (suc n) 0 p

-- the sum of two, where a decimal has its value
abbrev pub sum_of_two : Decimal → Decimal → Option Decimal
sum_of_two a b = decimal_of (over (numerator a b.scale +ℤ numerator b a.scale) (a.scale + b.scale))

abbrev pub added : Option Decimal → Decimal → Option Decimal
added total n = option_and_then (λ t. sum_of_two t n) total

-- "sum": the numbers added from the left, each partial sum a decimal; 0 of none
abbrev pub total_of : List Decimal → Option Decimal
total_of ns = fold added (decimal_of (whole false 0)) ns

abbrev pub total_in : List Doc → Answer Doc
total_in ds = due (all_of number_of ds) >>= (λ ns. as_number (total_of ns))

abbrev pub sum_of : Doc → Answer Doc
sum_of d = due (items_of d) >>= total_in

abbrev pub if_whole : {A : Type 0} → List ℕ → Option A → Option A
if_whole [] number = number
if_whole (b ∷ bs) number = None

-- the number that these bytes are, where they are one and a decimal has its value
abbrev pub read_in : Read Number → Option Decimal
read_in (Ok x) = if_whole x.1 (decimal_of (value_of x.0))
read_in (Err stop) = None

-- they begin as one and have no blank
abbrev pub is_bare : List ℕ → Bool
is_bare bytes = begins_number bytes && not (list_any is_blank bytes)

abbrev pub parsed_in : List ℕ → Option Decimal
parsed_in bytes = if is_bare bytes then read_in (number_at bytes) else None

abbrev pub parsed : List ℕ → Option Decimal
parsed t = parsed_in (encode_utf8_all t)

abbrev pub to_number_in : Doc-F Doc → Option Decimal
to_number_in (Doc-F.Number n) = Some n
to_number_in (Doc-F.Str t) = parsed t
to_number_in others = None

abbrev pub or_null : Option Decimal → Doc
or_null None = doc.Null
or_null (Some n) = doc.Number n

-- "to_number": a number as it is, a text that is a JSON number as that number, else null
abbrev pub to_number_of : Doc → Doc
to_number_of d = or_null (to_number_in (out-Doc d))
