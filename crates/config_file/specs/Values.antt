-- The values that texts stand for. A text is judged by its bytes in UTF-8.
use Rattle.std.specs.Prelude.{ℕ, Bool, true, false, ◌&&◌, if◌then◌else◌, List, length, map, nat_le, nat_lt, nat_eq, codes, bytes_eq, slice_index, Option, None, Some, option_map}
use Rattle.std.specs.Char.{is_ascii_digit, to_ascii_lowercase}
use Rattle.std.specs.Int.{is_in_range}
use Rattle.std.specs.List.{list_all, before_first, after_first}
use Rattle.std.specs.Str.{chars}
use Rattle.std.specs.Str.Parse.{digits_value}
use Rattle.aws_world.specs.declared.message.Target.{Target}
use Rattle.config_file.specs.declared.settings.Output.{Output}
use Rattle.config_file.specs.declared.settings.Output.TheVariants.{Json, Text, Table}

-- a format by its name
abbrev pub output_named : List ℕ → Option Output
output_named name =
    if bytes_eq name (codes "json") then Some Json else
    if bytes_eq name (codes "text") then Some Text else
    if bytes_eq name (codes "table") then Some Table else None

-- digits of which the first is not 0
abbrev pub is_plain_number : List ℕ → Bool
is_plain_number digits = is_in_range 49 57 (slice_index digits 0) && list_all is_ascii_digit digits

-- a number from 1 to the most
abbrev pub number_up_to : ℕ → List ℕ → Option ℕ
number_up_to most digits =
    if is_plain_number digits && nat_le (digits_value 10 digits) most then Some (digits_value 10 digits) else None

-- `true` or `false`, in any letter case
abbrev pub flag_in : List ℕ → Option Bool
flag_in text =
    if bytes_eq (map to_ascii_lowercase text) (codes "true") then Some true else
    if bytes_eq (map to_ascii_lowercase text) (codes "false") then Some false else None

abbrev pub is_colon : ℕ → Bool
is_colon b = nat_eq b 58

abbrev pub at_port : List ℕ → ℕ → Target
at_port host port = record { host = chars host; port = port }

-- `host:port`, where the host has a character and no colon, and the port is from 1 to 65535
abbrev pub target_in : List ℕ → Option Target
target_in text =
    if nat_lt 0 (length (before_first is_colon text))
    then option_map (at_port (before_first is_colon text)) (number_up_to 65535 (after_first is_colon text))
    else None
