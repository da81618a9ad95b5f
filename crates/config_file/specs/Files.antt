-- The sections of a settings file, and the profiles of both files.
use Rattle.std.specs.Prelude.{ℕ, ◌+◌, if◌then◌else◌, List, [], ◌∷◌, length, nat_lt, Result, Ok, Err}
use Rattle.std.specs.Option.{ok_or}
use Rattle.std.specs.Str.Lines.{lines}
use Rattle.texts.specs.Calls.{◌>>=◌}
use Rattle.config_file.specs.declared.profiles.TheConstants.{MOST_FILE_BYTES}
use Rattle.config_file.specs.declared.fault.ConfigFault.{ConfigFault}
use Rattle.config_file.specs.declared.fault.ConfigFault.TheVariants.{Syntax}
use Rattle.config_file.specs.declared.fault.FileKind.{FileKind}
use Rattle.config_file.specs.declared.fault.FileKind.TheVariants.{Config, Credentials}
use Rattle.config_file.specs.declared.line.Line.{Line}
use Rattle.config_file.specs.declared.line.Line.TheVariants.{Nothing, Head, Key}
use Rattle.config_file.specs.declared.line.Place.{Place}
use Rattle.config_file.specs.declared.line.Place.TheVariants.{Outside}
use Rattle.config_file.specs.declared.profiles.Profiles.{Profiles}
use Rattle.config_file.specs.declared.profiles.Section.{Section}
use Rattle.config_file.specs.Lines.{line_of, place_behind}

-- What lines add to a file: keys to the section that is open before them, and sections behind it.
pub record Part : Type 0 where
  pub keys : List (List ℕ × List ℕ)
  pub sections : List Section

-- what a line and those behind it add
abbrev pub with_line : Line → Part → Part
with_line Nothing part = part
with_line (Head profile) part =
    record { keys = []; sections = record { profile = profile; keys = part.keys } ∷ part.sections }
with_line (Key blanks key value) part = record { keys = (key, value) ∷ part.keys; sections = part.sections }

-- what the lines add from one on, which stands in this place and has this number; or the first faulty line
abbrev pub part_of : FileKind → Place → ℕ → List (List ℕ) → Result Part ConfigFault
part_of kind place number [] = Ok (record { keys = []; sections = [] })
part_of kind place number (bytes ∷ more) = do
  line ← ok_or (line_of kind place bytes) (Syntax kind number)
  part ← part_of kind (place_behind place line) (number + 1) more
  Ok (with_line line part)

-- the sections of a file, or its first faulty line; a file that is too long is faulty as line 0
abbrev pub sections_of : FileKind → List ℕ → Result (List Section) ConfigFault
sections_of kind file =
    if nat_lt MOST_FILE_BYTES (length file) then Err (Syntax kind 0)
    else (part_of kind Outside 1 (lines file) >>= λ part. Ok part.sections)

-- both files; what is wrong with the config file comes first
abbrev pub profiles_of : List ℕ → List ℕ → Result Profiles ConfigFault
profiles_of config credentials = do
  config ← sections_of Config config
  credentials ← sections_of Credentials credentials
  Ok (record { config = config; credentials = credentials })
