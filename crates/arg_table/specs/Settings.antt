-- Settings options: what each takes of its group.
use Rattle.std.specs.Prelude.{ℕ, Bool, true, false, not, ◌&&◌, ◌||◌, List, [], ◌∷◌, if◌then◌else◌, Option, None, Some, option_map, is_some, Result, Ok, Err, bytes_eq, codes}
use Rattle.arg_table.specs.declared.fault.UsageFault.{UsageFault}
use Rattle.arg_table.specs.declared.fault.UsageFault.TheVariants.{MissingValue, BadChoice}
use Rattle.arg_table.specs.declared.settings.Setting.{Setting}
use Rattle.arg_table.specs.declared.settings.Setting.TheVariants.{Value, NoSignRequest, NoPaginate}
use Rattle.arg_table.specs.declared.words.Group.{Group}
use Rattle.texts.specs.Calls.{◌>>=◌}
use Rattle.arg_table.specs.Words.{values_of}

-- the options with one value
abbrev pub takes_value : List ℕ → Bool
takes_value name =
    bytes_eq name (codes "region") || bytes_eq name (codes "profile") || bytes_eq name (codes "output")
    || bytes_eq name (codes "endpoint-url") || bytes_eq name (codes "query")

-- the flags
abbrev pub flag_named : List ℕ → Option Setting
flag_named name =
    if bytes_eq name (codes "no-sign-request") then Some NoSignRequest else
    if bytes_eq name (codes "no-paginate") then Some NoPaginate else None

abbrev pub is_setting : List ℕ → Bool
is_setting name = takes_value name || is_some (flag_named name)

abbrev pub is_format : List ℕ → Bool
is_format value = bytes_eq value (codes "json") || bytes_eq value (codes "text") || bytes_eq value (codes "table")

-- an option with its value; that of `--output` is the name of a format
abbrev pub valued : List ℕ → List ℕ → Result Setting UsageFault
valued name value =
    if bytes_eq name (codes "output") && not (is_format value) then Err (BadChoice name) else Ok (Value name value)

-- what was taken of a group, and its plain words that are left
pub record Taken (T : Type 0) : Type 0 where
  pub taken : T
  pub left : List (List ℕ)

-- one value is taken
abbrev pub value_taken : List ℕ → List (List ℕ) → Result (Taken Setting) UsageFault
value_taken name [] = Err (MissingValue name)
value_taken name (v ∷ vs) = do
  setting ← valued name v
  Ok (record { taken = setting; left = vs })

-- a flag takes none
abbrev pub flag_taken : Group → Setting → Result (Taken Setting) UsageFault
flag_taken g setting = if is_some g.joined then Err (BadChoice g.option) else Ok (record { taken = setting; left = g.words })

-- what a settings option takes; None for any other option
abbrev pub setting_taken : Group → Option (Result (Taken Setting) UsageFault)
setting_taken g =
    if takes_value g.option then Some (value_taken g.option (values_of g)) else option_map (flag_taken g) (flag_named g.option)

-- what the settings of a line say together
abbrev pub pairs_in : List Setting → List (List ℕ × List ℕ)
pairs_in [] = []
pairs_in (Value name value ∷ ss) = (name, value) ∷ pairs_in ss
pairs_in (s ∷ ss) = pairs_in ss

abbrev pub keeps_signature : Setting → Bool
keeps_signature NoSignRequest = false
keeps_signature _ = true

abbrev pub keeps_paging : Setting → Bool
keeps_paging NoPaginate = false
keeps_paging _ = true
