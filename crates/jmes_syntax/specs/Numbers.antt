-- Whole numbers (JMESPath specification, "Grammar": number), within `i64`.
use Rattle.std.specs.Prelude.{ℕ, ◌==◌, Bool, ◌&&◌, true, false, if◌then◌else◌, nat_lt, List, take, drop, slice_index, Option, None, Some}
use Rattle.std.specs.Char.{is_ascii_digit}
use Rattle.std.specs.List.{prefix_len}
use Rattle.std.specs.Str.Parse.{digits_value}
use Rattle.jmes_syntax.specs.declared.whole.Whole.{Whole}
use Rattle.jmes_syntax.specs.Reading.{followed}

-- from -2^63 to 2^63 - 1
abbrev pub is_within : Bool → ℕ → Bool
is_within is_negative size = nat_lt size (if is_negative then 9223372036854775809 else 9223372036854775808)

-- the number of this sign and size; zero has no sign
abbrev pub whole_of : Bool → ℕ → Option Whole
whole_of is_negative size =
    if is_within is_negative size then Some (record { is_negative = is_negative && nat_lt 0 size; magnitude = size }) else None

-- whether a minus stands in front, and what is behind it
abbrev pub signed_at : List ℕ → Bool × List ℕ
signed_at bs = if slice_index bs 0 == 0x2D then (true, drop 1 bs) else (false, bs)

-- digits, one at least
abbrev pub digits_at : Bool → List ℕ → Option (Whole × List ℕ)
digits_at is_negative bs = let n = prefix_len is_ascii_digit bs in
    if n == 0 then None else followed (whole_of is_negative (digits_value 10 (take n bs))) (drop n bs)

-- number = ["-"] 1*digit
abbrev pub number_at : List ℕ → Option (Whole × List ℕ)
number_at bs = let signed = signed_at bs in digits_at signed.0 signed.1
