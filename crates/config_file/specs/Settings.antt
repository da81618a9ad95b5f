-- The settings of a command: each from the first layer that has a value.
use Rattle.std.specs.Prelude.{ℕ, Bool, false, if◌then◌else◌, List, [], ◌∷◌, codes, encode_utf8_all, Option, None, Some, ok_or, option_map, Result, Ok, Err}
use Rattle.std.specs.Option.{option_or}
use Rattle.texts.specs.Calls.{◌>>=◌}
use Rattle.aws_world.specs.Env.{value_of, unless_empty}
use Rattle.aws_world.specs.declared.message.Target.{Target}
use Rattle.config_file.specs.declared.fault.ConfigFault.{ConfigFault}
use Rattle.config_file.specs.declared.fault.ConfigFault.TheVariants.{ProfileAbsent, BadSetting}
use Rattle.config_file.specs.declared.profiles.Profiles.{Profiles}
use Rattle.config_file.specs.declared.profiles.Section.{Section}
use Rattle.config_file.specs.declared.settings.Keys.{Keys}
use Rattle.config_file.specs.declared.settings.Output.{Output}
use Rattle.config_file.specs.declared.settings.Output.TheVariants.{Json}
use Rattle.config_file.specs.declared.settings.Settings.{Settings}
use Rattle.config_file.specs.Lookups.{last_value, value_in, value_at, has_profile}
use Rattle.config_file.specs.Values.{output_named, number_up_to, flag_in, target_in}

-- names and values: options of the line, or variables of the environment
abbrev pub Named : Type 0
Named = List (List ℕ × List ℕ)

-- the first layer that has a value
abbrev pub first_of : {A : Type 0} → List (Option A) → Option A
first_of [] = None
first_of (layer ∷ layers) = option_or layer (first_of layers)

-- What the counted value stands for, or the default where no layer has one. A value that stands for nothing is a fault.
abbrev pub judged : {A : Type 0} → List ℕ → (List ℕ → Option A) → A → Option (List ℕ) → Result A ConfigFault
judged setting read default None = Ok default
judged setting read default (Some text) = ok_or (read text) (BadSetting setting)

-- the profile that is named: by the line, else by the environment
abbrev pub named_profile : Named → Named → Option (List ℕ)
named_profile line env = first_of (last_value (codes "profile") line ∷ value_of (codes "AWS_PROFILE") env ∷ [])

-- the profile that counts; one that is named must be in one of the files
abbrev pub known_profile : Profiles → Option (List ℕ) → Result (List ℕ) ConfigFault
known_profile profiles None = Ok (codes "default")
known_profile profiles (Some profile) = if has_profile profile profiles then Ok profile else Err (ProfileAbsent profile)

abbrev pub region_of : Named → Named → Profiles → List ℕ → Option (List ℕ)
region_of line env profiles profile = first_of
    (last_value (codes "region") line
    ∷ value_of (codes "AWS_DEFAULT_REGION") env
    ∷ value_at profile (codes "region") profiles ∷ [])

abbrev pub output_of : Named → Named → Profiles → List ℕ → Result Output ConfigFault
output_of line env profiles profile = judged (codes "output") output_named Json (first_of
    (last_value (codes "output") line
    ∷ value_of (codes "AWS_DEFAULT_OUTPUT") env
    ∷ value_at profile (codes "output") profiles ∷ []))

-- the keys of a layer that has both; the session token is that of the same layer
abbrev pub both_keys : Option (List ℕ) → Option (List ℕ) → Option (List ℕ) → Option Keys
both_keys (Some access) (Some secret) session = Some (record { access = access; secret = secret; session = session })
both_keys (Some access) None session = None
both_keys None secret session = None

-- the keys of the environment, which a profile on the line sets aside
abbrev pub env_keys : Option (List ℕ) → Named → Option Keys
env_keys (Some profile) env = None
env_keys None env = both_keys
    (value_of (codes "AWS_ACCESS_KEY_ID") env)
    (value_of (codes "AWS_SECRET_ACCESS_KEY") env)
    (value_of (codes "AWS_SESSION_TOKEN") env)

-- the keys of a profile in one file, of which an empty one counts as none
abbrev pub file_keys : List ℕ → List Section → Option Keys
file_keys profile sections = both_keys
    (unless_empty (value_in profile (codes "aws_access_key_id") sections))
    (unless_empty (value_in profile (codes "aws_secret_access_key") sections))
    (unless_empty (value_in profile (codes "aws_session_token") sections))

abbrev pub keys_for : Named → Named → Profiles → List ℕ → Option Keys
keys_for line env profiles profile = first_of
    (env_keys (last_value (codes "profile") line) env
    ∷ file_keys profile profiles.credentials
    ∷ file_keys profile profiles.config ∷ [])

abbrev pub attempts_of : Named → Profiles → List ℕ → Result ℕ ConfigFault
attempts_of env profiles profile = judged (codes "max_attempts") (λ text. number_up_to 1000 (encode_utf8_all text)) 3 (first_of
    (value_of (codes "AWS_MAX_ATTEMPTS") env
    ∷ value_at profile (codes "max_attempts") profiles ∷ []))

-- a setting that is on or off, of which the environment comes before the profile
abbrev pub flag_of : List ℕ → Option (List ℕ) → Option (List ℕ) → Result Bool ConfigFault
flag_of setting variable value = judged setting (λ text. flag_in (encode_utf8_all text)) false (first_of (variable ∷ value ∷ []))

abbrev pub fips_of : Named → Profiles → List ℕ → Result Bool ConfigFault
fips_of env profiles profile = flag_of (codes "use_fips_endpoint")
    (value_of (codes "AWS_USE_FIPS_ENDPOINT") env)
    (value_at profile (codes "use_fips_endpoint") profiles)

abbrev pub dual_stack_of : Named → Profiles → List ℕ → Result Bool ConfigFault
dual_stack_of env profiles profile = flag_of (codes "use_dualstack_endpoint")
    (value_of (codes "AWS_USE_DUALSTACK_ENDPOINT") env)
    (value_at profile (codes "use_dualstack_endpoint") profiles)

abbrev pub gateway_of : Named → Result (Option Target) ConfigFault
gateway_of env = judged (codes "gateway") (λ text. option_map Some (target_in (encode_utf8_all text))) None
    (value_of (codes "AWS_PLAIN_GATEWAY") env)

-- the settings for a profile, or the first one whose value is faulty
abbrev pub settings_for : Named → Named → Profiles → List ℕ → Result Settings ConfigFault
settings_for line env profiles profile = do
  output ← output_of line env profiles profile
  attempts ← attempts_of env profiles profile
  fips ← fips_of env profiles profile
  dual_stack ← dual_stack_of env profiles profile
  gateway ← gateway_of env
  Ok (record {
    region = region_of line env profiles profile;
    output = output;
    keys = keys_for line env profiles profile;
    attempts = attempts;
    fips = fips;
    dual_stack = dual_stack;
    endpoint_url = last_value (codes "endpoint-url") line;
    gateway = gateway;
    query = last_value (codes "query") line;
  })

-- all settings, or the first fault
abbrev pub settings_of : Named → Named → Profiles → Result Settings ConfigFault
settings_of line env profiles = do
  profile ← known_profile profiles (named_profile line env)
  settings_for line env profiles profile
