-- The folders in which models are looked for.
use Rattle.std.specs.Prelude.{ℕ, ◌==◌, Bool, List, [], ◌∷◌, ◌++◌, Option, None, Some, codes, flat_map, encode_utf8_all}
use Rattle.std.specs.List.{slice_split}
use Rattle.std.specs.Str.{chars}
use Rattle.aws_world.specs.Env.{value_of}

-- paths and bytes of files, or names and values of variables
abbrev pub Held : Type 0
Held = List (List ℕ × List ℕ)

abbrev pub is_colon : ℕ → Bool
is_colon b = b == 58

-- a part of a text, where it isn't empty
abbrev pub part_of : List ℕ → List (List ℕ)
part_of [] = []
part_of (b ∷ bs) = chars (b ∷ bs) ∷ []

-- the parts of a text between its colons that aren't empty
abbrev pub folders_in : List ℕ → List (List ℕ)
folders_in text = flat_map part_of (slice_split is_colon text)

abbrev pub folders_named : Option (List ℕ) → List (List ℕ)
folders_named None = []
folders_named (Some text) = folders_in (encode_utf8_all text)

-- the folder of models below the home folder, where there is one
abbrev pub folder_at_home : Option (List ℕ) → List (List ℕ)
folder_at_home None = []
folder_at_home (Some home) = (home ++ codes "/.aws/models") ∷ []

-- the folders of models: those that the environment names, then that of the home folder
abbrev pub folders_of : Held → List (List ℕ)
folders_of env = folders_named (value_of (codes "AWS_DATA_PATH") env) ++ folder_at_home (value_of (codes "HOME") env)
