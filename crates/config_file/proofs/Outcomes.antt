-- Files and settings have a value or a refusal.
use Rattle.std.proofs.Common.{◌≡◌, ℕ, ◌+◌, List, [], ◌∷◌, Option, None, Some, Bool, true, false, inl, inr, refl, ap}
use Rattle.std.specs.Prelude.{◌⊎◌, Result, Ok, Err, length, nat_lt, cond, codes, encode_utf8_all, option_map, ok_or}
use Rattle.std.specs.Str.Lines.{lines}
use Rattle.aws_world.specs.Env.{value_of}
use Rattle.texts.specs.Calls.{◌>>=◌}
use Rattle.config_file.specs.declared.fault.ConfigFault.{ConfigFault}
use Rattle.config_file.specs.declared.fault.ConfigFault.TheVariants.{Syntax, ProfileAbsent, BadSetting}
use Rattle.config_file.specs.declared.fault.FileKind.{FileKind}
use Rattle.config_file.specs.declared.fault.FileKind.TheVariants.{Config, Credentials}
use Rattle.config_file.specs.declared.line.Line.{Line}
use Rattle.config_file.specs.declared.line.Place.{Place}
use Rattle.config_file.specs.declared.line.Place.TheVariants.{Outside}
use Rattle.config_file.specs.declared.profiles.Profiles.{Profiles}
use Rattle.config_file.specs.declared.profiles.TheConstants.{MOST_FILE_BYTES}
use Rattle.config_file.specs.declared.settings.Output.TheVariants.{Json}
use Rattle.config_file.specs.declared.settings.Settings.{Settings}
use Rattle.config_file.specs.Files.{with_line, part_of, sections_of, profiles_of}
use Rattle.config_file.specs.Lines.{line_of, place_behind}
use Rattle.config_file.specs.Lookups.{has_profile, last_value, value_at}
use Rattle.config_file.specs.Settings.{Named, first_of, judged, flag_of, known_profile, named_profile, settings_for, settings_of, output_of, attempts_of, fips_of, dual_stack_of, gateway_of}
use Rattle.config_file.specs.Values.{output_named, number_up_to, flag_in, target_in}

-- each refusal is of this form
abbrev pub Refuses : {A : Type 0} → (ConfigFault → Type 0) → Result A ConfigFault → Type 0
Refuses Form (Ok x) = Unit {0}
Refuses Form (Err e) = Form e

abbrev IsSyntax : ConfigFault → Type 0
IsSyntax e = (kind : FileKind) × (number : ℕ) × (e ≡ Syntax kind number)

abbrev IsBad : ConfigFault → Type 0
IsBad e = ((name : List ℕ) × (e ≡ ProfileAbsent name)) ⊎ ((name : List ℕ) × (e ≡ BadSetting name))

refuses_then : {A B : Type 0} (Form : ConfigFault → Type 0) (r : Result A ConfigFault) (f : A → Result B ConfigFault)
    → Refuses Form r → ((x : A) → Refuses Form (f x)) → Refuses Form (r >>= f)
refuses_then Form (Ok x) f first second = second x
refuses_then Form (Err e) f first second = first

refuses_if : {A : Type 0} (Form : ConfigFault → Type 0) (b : Bool) (r s : Result A ConfigFault)
    → Refuses Form r → Refuses Form s → Refuses Form (cond b r s)
refuses_if Form true r s first second = first
refuses_if Form false r s first second = second

known_line : (kind : FileKind) (number : ℕ) (line : Option Line) → Refuses IsSyntax (ok_or line (Syntax kind number))
known_line kind number None = (kind, number, refl)
known_line kind number (Some line) = tt

part_refuses : (kind : FileKind) (place : Place) (number : ℕ) (lines : List (List ℕ)) → Refuses IsSyntax (part_of kind place number lines)
part_refuses kind place number [] = tt
part_refuses kind place number (bytes ∷ more) =
    refuses_then IsSyntax (ok_or (line_of kind place bytes) (Syntax kind number))
    (λ line. part_of kind (place_behind place line) (number + 1) more >>= λ part. Ok (with_line line part))
    (known_line kind number (line_of kind place bytes))
    (λ line. refuses_then IsSyntax (part_of kind (place_behind place line) (number + 1) more) (λ part. Ok (with_line line part))
    (part_refuses kind (place_behind place line) (number + 1) more) (λ part. tt))

sections_refuse : (kind : FileKind) (file : List ℕ) → Refuses IsSyntax (sections_of kind file)
sections_refuse kind file =
    refuses_if IsSyntax (nat_lt MOST_FILE_BYTES (length file)) (Err (Syntax kind 0)) (part_of kind Outside 1 (lines file) >>= λ part. Ok part.sections)
    (kind, 0, refl)
    (refuses_then IsSyntax (part_of kind Outside 1 (lines file)) (λ part. Ok part.sections) (part_refuses kind Outside 1 (lines file)) (λ part. tt))

profiles_refuse : (config credentials : List ℕ) → Refuses IsSyntax (profiles_of config credentials)
profiles_refuse config credentials =
    refuses_then IsSyntax (sections_of Config config)
    (λ config. sections_of Credentials credentials >>= λ credentials. Ok (record { config = config; credentials = credentials }))
    (sections_refuse Config config)
    (λ config. refuses_then IsSyntax (sections_of Credentials credentials) (λ credentials. Ok (record { config = config; credentials = credentials }))
    (sections_refuse Credentials credentials) (λ credentials. tt))

syntax_outcome : {A : Type 0} (r : Result A ConfigFault) → Refuses IsSyntax r
    → ((x : A) × (r ≡ Ok x)) ⊎ ((kind : FileKind) × (number : ℕ) × (r ≡ Err (Syntax kind number)))
syntax_outcome (Ok x) refuses = inl (x, refl)
syntax_outcome (Err e) refuses = inr (refuses.0, refuses.1, ap Err refuses.2)

pub files_outcome : (config credentials : List ℕ)
    → ((profiles : Profiles) × (profiles_of config credentials ≡ Ok profiles))
    ⊎ ((kind : FileKind) × (number : ℕ) × (profiles_of config credentials ≡ Err (Syntax kind number)))
files_outcome config credentials = syntax_outcome (profiles_of config credentials) (profiles_refuse config credentials)

judged_some : {A : Type 0} (setting : List ℕ) (o : Option A) → Refuses IsBad (ok_or o (BadSetting setting))
judged_some setting None = inr (setting, refl)
judged_some setting (Some x) = tt

judged_refuses : {A : Type 0} (setting : List ℕ) (read : List ℕ → Option A) (default : A) (value : Option (List ℕ)) → Refuses IsBad (judged setting read default value)
judged_refuses setting read default None = tt
judged_refuses setting read default (Some text) = judged_some setting (read text)

profile_refuses : (profiles : Profiles) (named : Option (List ℕ)) → Refuses IsBad (known_profile profiles named)
profile_refuses profiles None = tt
profile_refuses profiles (Some profile) = refuses_if IsBad (has_profile profile profiles) (Ok profile) (Err (ProfileAbsent profile)) tt (inl (profile, refl))

flag_refuses : (setting : List ℕ) (variable value : Option (List ℕ)) → Refuses IsBad (flag_of setting variable value)
flag_refuses setting variable value =
    judged_refuses setting (λ text. flag_in (encode_utf8_all text)) false (first_of (variable ∷ value ∷ []))

output_refuses : (line env : Named) (profiles : Profiles) (profile : List ℕ) → Refuses IsBad (output_of line env profiles profile)
output_refuses line env profiles profile = judged_refuses (codes "output") output_named Json (first_of
    (last_value (codes "output") line
    ∷ value_of (codes "AWS_DEFAULT_OUTPUT") env
    ∷ value_at profile (codes "output") profiles ∷ []))

attempts_refuse : (env : Named) (profiles : Profiles) (profile : List ℕ) → Refuses IsBad (attempts_of env profiles profile)
attempts_refuse env profiles profile = judged_refuses (codes "max_attempts") (λ text. number_up_to 1000 (encode_utf8_all text)) 3 (first_of
    (value_of (codes "AWS_MAX_ATTEMPTS") env
    ∷ value_at profile (codes "max_attempts") profiles ∷ []))

gateway_refuses : (env : Named) → Refuses IsBad (gateway_of env)
gateway_refuses env = judged_refuses (codes "gateway") (λ text. option_map Some (target_in (encode_utf8_all text))) None (value_of (codes "AWS_PLAIN_GATEWAY") env)

for_refuses : (line env : Named) (profiles : Profiles) (profile : List ℕ) → Refuses IsBad (settings_for line env profiles profile)
for_refuses line env profiles profile =
    refuses_then IsBad (output_of line env profiles profile) _ (output_refuses line env profiles profile)
    (λ output. refuses_then IsBad (attempts_of env profiles profile) _ (attempts_refuse env profiles profile)
    (λ attempts. refuses_then IsBad (fips_of env profiles profile) _
    (flag_refuses (codes "use_fips_endpoint") (value_of (codes "AWS_USE_FIPS_ENDPOINT") env) (value_at profile (codes "use_fips_endpoint") profiles))
    (λ fips. refuses_then IsBad (dual_stack_of env profiles profile) _
    (flag_refuses (codes "use_dualstack_endpoint") (value_of (codes "AWS_USE_DUALSTACK_ENDPOINT") env) (value_at profile (codes "use_dualstack_endpoint") profiles))
    (λ dual_stack. refuses_then IsBad (gateway_of env) _ (gateway_refuses env) (λ gateway. tt)))))

settings_refuse : (line env : Named) (profiles : Profiles) → Refuses IsBad (settings_of line env profiles)
settings_refuse line env profiles =
    refuses_then IsBad (known_profile profiles (named_profile line env)) (λ profile. settings_for line env profiles profile)
    (profile_refuses profiles (named_profile line env)) (λ profile. for_refuses line env profiles profile)

bad_outcome : {A : Type 0} (r : Result A ConfigFault) → Refuses IsBad r
    → ((x : A) × (r ≡ Ok x)) ⊎ (((name : List ℕ) × (r ≡ Err (ProfileAbsent name))) ⊎ ((name : List ℕ) × (r ≡ Err (BadSetting name))))
bad_outcome (Ok x) refuses = inl (x, refl)
bad_outcome (Err e) (inl absent) = inr (inl (absent.0, ap Err absent.1))
bad_outcome (Err e) (inr bad) = inr (inr (bad.0, ap Err bad.1))

pub settings_outcome : (line env : Named) (profiles : Profiles)
    → ((settings : Settings) × (settings_of line env profiles ≡ Ok settings))
    ⊎ (((name : List ℕ) × (settings_of line env profiles ≡ Err (ProfileAbsent name)))
    ⊎ ((name : List ℕ) × (settings_of line env profiles ≡ Err (BadSetting name))))
settings_outcome line env profiles = bad_outcome (settings_of line env profiles) (settings_refuse line env profiles)
