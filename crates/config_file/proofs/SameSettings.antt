-- Profiles with the same values give the same settings.
use Rattle.std.proofs.Common.{◌≡◌, ℕ, List, [], ◌∷◌, Option, None, Some, Bool, refl, ap, ◌∙◌}
use Rattle.std.specs.Prelude.{◌||◌, codes, if◌then◌else◌, encode_utf8_all, Result, Ok, Err, IsPermutation}
use Rattle.std.specs.Option.{option_or}
use Rattle.std.proofs.lemmas.List.Sorted.{list_any-IsPermutation}
use Rattle.aws_world.specs.Env.{value_of, unless_empty}
use Rattle.texts.specs.Calls.{◌>>=◌}
use Rattle.config_file.specs.declared.fault.ConfigFault.{ConfigFault}
use Rattle.config_file.specs.declared.fault.ConfigFault.TheVariants.{ProfileAbsent}
use Rattle.config_file.specs.declared.profiles.Profiles.{Profiles}
use Rattle.config_file.specs.declared.profiles.Section.{Section}
use Rattle.config_file.specs.declared.settings.Keys.{Keys}
use Rattle.config_file.specs.declared.settings.Output.{Output}
use Rattle.config_file.specs.declared.settings.Output.TheVariants.{Json}
use Rattle.config_file.specs.declared.settings.Settings.{Settings}
use Rattle.config_file.specs.Laws.{HasKeysOnce}
use Rattle.config_file.specs.Lookups.{last_value, is_of, is_in, has_profile, value_in, value_at}
use Rattle.config_file.specs.Settings.{Named, first_of, judged, flag_of, both_keys, env_keys, file_keys, keys_for, known_profile, named_profile, region_of, output_of, attempts_of, fips_of, dual_stack_of, gateway_of, settings_for, settings_of}
use Rattle.config_file.specs.Values.{output_named, number_up_to}
use Rattle.config_file.proofs.Orders.{same_value}

-- the same sections in another order, where no profile of the first ones has a key twice
pub record Moved (a b : Profiles) : Type 0 where
  pub config : IsPermutation a.config b.config
  pub credentials : IsPermutation a.credentials b.credentials
  pub config_once : HasKeysOnce a.config
  pub credentials_once : HasKeysOnce a.credentials

both : {A B C : Type 0} (f : A → B → C) (a c : A) (b d : B) → a ≡ c → b ≡ d → f a b ≡ f c d
both f a c b d first second = ap (λ x. f x b) first ∙ ap (f c) second

same_at : (profile key : List ℕ) (a b : Profiles) → Moved a b → value_at profile key a ≡ value_at profile key b
same_at profile key a b moved = both option_or _ _ _ _
    (same_value profile key a.credentials b.credentials moved.credentials (moved.credentials_once profile))
    (same_value profile key a.config b.config moved.config (moved.config_once profile))

same_has : (profile : List ℕ) (a b : Profiles) → Moved a b → has_profile profile a ≡ has_profile profile b
same_has profile a b moved = both (λ x y. x || y) (is_in profile a.credentials) (is_in profile b.credentials) (is_in profile a.config) (is_in profile b.config)
    (list_any-IsPermutation (is_of profile) a.credentials b.credentials moved.credentials)
    (list_any-IsPermutation (is_of profile) a.config b.config moved.config)

same_known : (a b : Profiles) (named : Option (List ℕ)) → Moved a b → known_profile a named ≡ known_profile b named
same_known a b None moved = refl
same_known a b (Some profile) moved = ap (λ has. if has then Ok profile else Err (ProfileAbsent profile)) (same_has profile a b moved)

same_keys : (profile : List ℕ) (xs ys : List Section) → IsPermutation xs ys → HasKeysOnce xs → file_keys profile xs ≡ file_keys profile ys
same_keys profile xs ys moved once =
    let value = λ (key : List ℕ). ap unless_empty (same_value profile key xs ys moved (once profile)) in
    ap (λ v. both_keys v (unless_empty (value_in profile (codes "aws_secret_access_key") xs)) (unless_empty (value_in profile (codes "aws_session_token") xs)))
    (value (codes "aws_access_key_id"))
    ∙ ap (λ v. both_keys (unless_empty (value_in profile (codes "aws_access_key_id") ys)) v (unless_empty (value_in profile (codes "aws_session_token") xs)))
    (value (codes "aws_secret_access_key"))
    ∙ ap (λ v. both_keys (unless_empty (value_in profile (codes "aws_access_key_id") ys)) (unless_empty (value_in profile (codes "aws_secret_access_key") ys)) v)
    (value (codes "aws_session_token"))

same_keys_for : (line env : Named) (a b : Profiles) (profile : List ℕ) → Moved a b → keys_for line env a profile ≡ keys_for line env b profile
same_keys_for line env a b profile moved = both
    (λ first second. first_of (env_keys (last_value (codes "profile") line) env ∷ first ∷ second ∷ []))
    (file_keys profile a.credentials) (file_keys profile b.credentials) (file_keys profile a.config) (file_keys profile b.config)
    (same_keys profile a.credentials b.credentials moved.credentials moved.credentials_once)
    (same_keys profile a.config b.config moved.config moved.config_once)

same_region : (line env : Named) (a b : Profiles) (profile : List ℕ) → Moved a b → region_of line env a profile ≡ region_of line env b profile
same_region line env a b profile moved =
    ap (λ v. first_of (last_value (codes "region") line ∷ value_of (codes "AWS_DEFAULT_REGION") env ∷ v ∷ [])) (same_at profile (codes "region") a b moved)

same_output : (line env : Named) (a b : Profiles) (profile : List ℕ) → Moved a b → output_of line env a profile ≡ output_of line env b profile
same_output line env a b profile moved = ap
    (λ v. judged (codes "output") output_named Json (first_of (last_value (codes "output") line ∷ value_of (codes "AWS_DEFAULT_OUTPUT") env ∷ v ∷ [])))
    (same_at profile (codes "output") a b moved)

same_attempts : (env : Named) (a b : Profiles) (profile : List ℕ) → Moved a b → attempts_of env a profile ≡ attempts_of env b profile
same_attempts env a b profile moved = ap
    (λ v. judged (codes "max_attempts") (λ text. number_up_to 1000 (encode_utf8_all text)) 3 (first_of (value_of (codes "AWS_MAX_ATTEMPTS") env ∷ v ∷ [])))
    (same_at profile (codes "max_attempts") a b moved)

same_fips : (env : Named) (a b : Profiles) (profile : List ℕ) → Moved a b → fips_of env a profile ≡ fips_of env b profile
same_fips env a b profile moved = ap (flag_of (codes "use_fips_endpoint") (value_of (codes "AWS_USE_FIPS_ENDPOINT") env))
    (same_at profile (codes "use_fips_endpoint") a b moved)

same_dual_stack : (env : Named) (a b : Profiles) (profile : List ℕ) → Moved a b → dual_stack_of env a profile ≡ dual_stack_of env b profile
same_dual_stack env a b profile moved = ap (flag_of (codes "use_dualstack_endpoint") (value_of (codes "AWS_USE_DUALSTACK_ENDPOINT") env))
    (same_at profile (codes "use_dualstack_endpoint") a b moved)

-- settings, of what hangs on the profiles
abbrev settings_from : Named → Named → Result Output ConfigFault → Result ℕ ConfigFault → Result Bool ConfigFault → Result Bool ConfigFault
    → Option (List ℕ) → Option Keys → Result Settings ConfigFault
settings_from line env output attempts fips dual_stack region keys = do
  output ← output
  attempts ← attempts
  fips ← fips
  dual_stack ← dual_stack
  gateway ← gateway_of env
  Ok (record {
    region = region;
    output = output;
    keys = keys;
    attempts = attempts;
    fips = fips;
    dual_stack = dual_stack;
    endpoint_url = last_value (codes "endpoint-url") line;
    gateway = gateway;
    query = last_value (codes "query") line;
  })

same_for : (line env : Named) (a b : Profiles) (profile : List ℕ) → Moved a b → settings_for line env a profile ≡ settings_for line env b profile
same_for line env a b profile moved =
    ap (λ x. settings_from line env x (attempts_of env a profile) (fips_of env a profile) (dual_stack_of env a profile) (region_of line env a profile) (keys_for line env a profile))
    (same_output line env a b profile moved)
    ∙ ap (λ x. settings_from line env (output_of line env b profile) x (fips_of env a profile) (dual_stack_of env a profile) (region_of line env a profile) (keys_for line env a profile))
    (same_attempts env a b profile moved)
    ∙ ap (λ x. settings_from line env (output_of line env b profile) (attempts_of env b profile) x (dual_stack_of env a profile) (region_of line env a profile) (keys_for line env a profile))
    (same_fips env a b profile moved)
    ∙ ap (λ x. settings_from line env (output_of line env b profile) (attempts_of env b profile) (fips_of env b profile) x (region_of line env a profile) (keys_for line env a profile))
    (same_dual_stack env a b profile moved)
    ∙ both (settings_from line env (output_of line env b profile) (attempts_of env b profile) (fips_of env b profile) (dual_stack_of env b profile))
    (region_of line env a profile) (region_of line env b profile) (keys_for line env a profile) (keys_for line env b profile)
    (same_region line env a b profile moved) (same_keys_for line env a b profile moved)

same_then : (line env : Named) (a b : Profiles) (known : Result (List ℕ) ConfigFault) → Moved a b
    → (known >>= λ profile. settings_for line env a profile) ≡ (known >>= λ profile. settings_for line env b profile)
same_then line env a b (Ok profile) moved = same_for line env a b profile moved
same_then line env a b (Err fault) moved = refl

pub same_settings : (line env : Named) (a b : Profiles) → Moved a b → settings_of line env a ≡ settings_of line env b
same_settings line env a b moved =
    ap (λ known. known >>= λ profile. settings_for line env a profile) (same_known a b (named_profile line env) moved)
    ∙ same_then line env a b (known_profile b (named_profile line env)) moved
