use Rattle.std.proofs.Common.{◌≡◌, ℕ, List, Option, None, sym, ap, ◌∙◌, refl}
use Rattle.std.specs.Prelude.{codes, Ok}
use Rattle.std.specs.Option.{option_copied, option_or}
use Rattle.std.specs.Str.{chars}
use Rattle.texts.proofs.Texts.{chars_ascii}
use Rattle.config_file.specs.declared.profiles.Profiles.{Profiles}
use Rattle.config_file.specs.Settings.{known_profile}
use Rattle.config_file.proofs.LastValues.{option_copied-or, option_or-none}
use Rattle.config_file.proofs.layers.profile.Goals as goal

-- where neither layer names a profile, it is the default one
unnamed : (profiles : Profiles) (a b a' b' : Option (List ℕ)) → a' ≡ a → b' ≡ b → option_or a' b' ≡ None
    → known_profile profiles (option_or a (option_or b None)) ≡ Ok (chars (codes "default"))
unnamed profiles a b a' b' first second none =
    ap (known_profile profiles)
    (ap (λ o. option_or o (option_or b None)) (sym first) ∙ ap (λ o. option_or a' o) (option_or-none b ∙ sym second) ∙ none)
    ∙ ap Ok (sym (chars_ascii (codes "default") refl))

pub returns-in_default : goal.returns-in_default
returns-in_default c =
    unnamed c.args.profiles.now _ _ (option_copied c.option.result) (option_copied c.variable.result) c.option.ensures c.variable.ensures
    (sym (option_copied-or c.option.result c.variable.result) ∙ ap option_copied (sym c.or.ensures ∙ c.in_default.is))
