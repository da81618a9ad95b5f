-- A settings file of which some lines are read. Only private contracts cite this page.
use Rattle.std.specs.Prelude.{ℕ, List, [], ◌∷◌, ◌++◌, Option, None, Some, Result, Ok}
use Rattle.texts.specs.Calls.{◌>>=◌}
use Rattle.config_file.specs.declared.fault.ConfigFault.{ConfigFault}
use Rattle.config_file.specs.declared.profiles.Section.{Section}
use Rattle.config_file.specs.declared.reading.Reading.{Reading}
use Rattle.config_file.specs.Files.{Part, part_of}

-- what is added by no lines
abbrev pub no_part : Part
no_part = record { keys = []; sections = [] }

-- the section that is open, and those behind it, once a part is added
abbrev pub continued : Option Section → Part → List Section
continued None part = part.sections
continued (Some section) part = record { profile = section.profile; keys = section.keys ++ part.keys } ∷ part.sections

-- all sections, once a part is added
abbrev pub completed : List Section → Option Section → Part → List Section
completed closed current part = closed ++ continued current part

-- what is due of the file, where these are the lines that aren't read yet
abbrev pub due : Reading → List (List ℕ) → Result (List Section) ConfigFault
due reading lines = part_of reading.kind reading.place reading.number lines
    >>= λ part. Ok (completed reading.closed reading.current part)
