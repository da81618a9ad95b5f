-- Counts on a line.
use Rattle.std.specs.Prelude.{ℕ, Bool, ◌&&◌, List, if◌then◌else◌, length, nat_lt, nat_le, Option, None, Some}
use Rattle.std.specs.Char.{is_ascii_digit}
use Rattle.std.specs.List.{list_all}
use Rattle.std.specs.Str.Parse.{digits_value}

-- decimal digits, of which leading ones may be zeros, with a value in this range
abbrev pub is_count : ℕ → ℕ → List ℕ → Bool
is_count least most digits =
    nat_lt 0 (length digits) && list_all is_ascii_digit digits && nat_le least (digits_value 10 digits) && nat_le (digits_value 10 digits) most

abbrev pub count_of : ℕ → ℕ → List ℕ → Option ℕ
count_of least most digits = if is_count least most digits then Some (digits_value 10 digits) else None
