-- Where the settings files are looked for.
use Rattle.std.specs.Prelude.{ℕ, if◌then◌else◌, List, ◌++◌, drop, codes, nat_eq, Option, None, Some}
use Rattle.std.specs.List.{starts_with}
use Rattle.aws_world.specs.Env.{value_of}

-- a path with `~/` in front lies below the home folder, where there is one
abbrev pub at_home : Option (List ℕ) → List ℕ → List ℕ
at_home None path = path
at_home (Some home) path = if starts_with nat_eq path (codes "~/") then home ++ drop 1 path else path

-- the path that is named, else that below the home folder, where there is one
abbrev pub path_from : Option (List ℕ) → Option (List ℕ) → List ℕ → Option (List ℕ)
path_from home (Some path) below = Some (at_home home path)
path_from (Some home) None below = Some (home ++ below)
path_from None None below = None

abbrev pub config_path_in : List (List ℕ × List ℕ) → Option (List ℕ)
config_path_in env = path_from (value_of (codes "HOME") env) (value_of (codes "AWS_CONFIG_FILE") env) (codes "/.aws/config")

abbrev pub credentials_path_in : List (List ℕ × List ℕ) → Option (List ℕ)
credentials_path_in env =
    path_from (value_of (codes "HOME") env) (value_of (codes "AWS_SHARED_CREDENTIALS_FILE") env) (codes "/.aws/credentials")
