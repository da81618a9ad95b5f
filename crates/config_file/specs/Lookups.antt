-- What is looked up in pairs, in the sections of a file and in both files.
use Rattle.std.specs.Prelude.{ℕ, Bool, false, ◌||◌, if◌then◌else◌, List, [], ◌∷◌, filter, flat_map, Option, None, Some, bytes_eq}
use Rattle.std.specs.List.{list_any}
use Rattle.std.specs.Option.{option_or}
use Rattle.config_file.specs.declared.profiles.Profiles.{Profiles}
use Rattle.config_file.specs.declared.profiles.Section.{Section}

-- the value of a name; where the name stands more than once, the last counts
abbrev pub last_value : List ℕ → List (List ℕ × List ℕ) → Option (List ℕ)
last_value name [] = None
last_value name (p ∷ ps) = option_or (last_value name ps) (if bytes_eq p.0 name then Some p.1 else None)

abbrev pub is_name : List ℕ → Option (List ℕ) → Bool
is_name profile None = false
is_name profile (Some name) = bytes_eq name profile

-- the section is one of the profile
abbrev pub is_of : List ℕ → Section → Bool
is_of profile section = is_name profile section.profile

-- the keys of a profile: those of all of its sections, in their order
abbrev pub profile_keys : List ℕ → List Section → List (List ℕ × List ℕ)
profile_keys profile sections = flat_map (λ section. section.keys) (filter (is_of profile) sections)

-- the value that a profile has at a key, in one file
abbrev pub value_in : List ℕ → List ℕ → List Section → Option (List ℕ)
value_in profile key sections = last_value key (profile_keys profile sections)

-- the value that a profile has at a key: that of the credentials file, else that of the config file
abbrev pub value_at : List ℕ → List ℕ → Profiles → Option (List ℕ)
value_at profile key profiles = option_or (value_in profile key profiles.credentials) (value_in profile key profiles.config)

-- the profile is in a file, in one of the files
abbrev pub is_in : List ℕ → List Section → Bool
is_in profile sections = list_any (is_of profile) sections

abbrev pub has_profile : List ℕ → Profiles → Bool
has_profile profile profiles = is_in profile profiles.credentials || is_in profile profiles.config
