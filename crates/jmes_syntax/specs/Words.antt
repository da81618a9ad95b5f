-- Names that aren't quoted (JMESPath specification, "Grammar": unquoted-string).
use Rattle.std.specs.Prelude.{ℕ, ◌==◌, Bool, ◌||◌, List}
use Rattle.std.specs.Char.{is_ascii_alphabetic, is_ascii_alphanumeric}
use Rattle.std.specs.List.{prefix_len}

-- a letter or `_`
abbrev pub begins_name : ℕ → Bool
begins_name b = is_ascii_alphabetic b || b == 0x5F

-- a letter, a digit or `_`
abbrev pub is_name_byte : ℕ → Bool
is_name_byte b = is_ascii_alphanumeric b || b == 0x5F

-- how many bytes in front belong to a name
abbrev pub name_len : List ℕ → ℕ
name_len bs = prefix_len is_name_byte bs
