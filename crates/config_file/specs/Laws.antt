-- What the laws say.
use Rattle.std.specs.Prelude.{◌≡◌, ℕ, ◌↔◌, ◌⊎◌, List, ◌∷◌, ◌++◌, map, All, Some, Ok, Err, IsPermutation}
use Rattle.std.specs.Str.{IsUtf8}
use Rattle.texts.specs.Keys.{IsDistinct}
use Rattle.config_file.specs.declared.fault.ConfigFault.TheVariants.{Syntax, ProfileAbsent, BadSetting}
use Rattle.config_file.specs.declared.fault.FileKind.{FileKind}
use Rattle.config_file.specs.declared.line.Line.{Line}
use Rattle.config_file.specs.declared.line.Place.{Place}
use Rattle.config_file.specs.declared.profiles.Profiles.{Profiles}
use Rattle.config_file.specs.declared.profiles.Section.{Section}
use Rattle.config_file.specs.declared.settings.Settings.{Settings}
use Rattle.config_file.specs.Files.{Part, part_of, profiles_of}
use Rattle.config_file.specs.Grammar.{IsBlank, IsEmptyLine, IsComment, IsLine}
use Rattle.config_file.specs.Lines.{line_of}
use Rattle.config_file.specs.Lookups.{profile_keys}
use Rattle.config_file.specs.Settings.{Named, settings_of}

-- what a line is goes by the grammar: it is of one form, or of none
abbrev pub LineIsGrammar : Type 0
LineIsGrammar = (kind : FileKind) (place : Place) (bytes : List ℕ) (line : Line)
    → (line_of kind place bytes ≡ Some line) ↔ IsLine kind place bytes line

-- two files have profiles, or a first faulty line
abbrev pub FilesHaveOutcome : Type 0
FilesHaveOutcome = (config credentials : List ℕ) → ((profiles : Profiles) × (profiles_of config credentials ≡ Ok profiles))
    ⊎ ((kind : FileKind) × (number : ℕ) × (profiles_of config credentials ≡ Err (Syntax kind number)))

-- words, variables and profiles have settings, or a fault of the profile or of a value
abbrev pub SettingsHaveOutcome : Type 0
SettingsHaveOutcome = (line env : Named) (profiles : Profiles)
    → ((settings : Settings) × (settings_of line env profiles ≡ Ok settings))
    ⊎ (((name : List ℕ) × (settings_of line env profiles ≡ Err (ProfileAbsent name)))
    ⊎ ((name : List ℕ) × (settings_of line env profiles ≡ Err (BadSetting name))))

-- blanks at the end of a line change nothing
abbrev pub BlanksAreFree : Type 0
BlanksAreFree = (kind : FileKind) (place : Place) (line blanks : List ℕ) → All IsBlank blanks
    → line_of kind place (line ++ blanks) ≡ line_of kind place line

-- an empty line or a comment changes nothing, wherever it is put
abbrev pub RemarksAreFree : Type 0
RemarksAreFree = (kind : FileKind) (place : Place) (number : ℕ) (before after : List (List ℕ)) (remark : List ℕ) (part : Part)
    → IsUtf8 remark → IsEmptyLine remark ⊎ IsComment remark
    → (part_of kind place number (before ++ remark ∷ after) ≡ Ok part) ↔ (part_of kind place number (before ++ after) ≡ Ok part)

-- no profile has a key twice
abbrev pub HasKeysOnce : List Section → Type 0
HasKeysOnce sections = (profile : List ℕ) → IsDistinct (map (λ pair. pair.0) (profile_keys profile sections))

-- the order of sections changes nothing where no key repeats
abbrev pub OrderIsFree : Type 0
OrderIsFree = (line env : Named) (a b : Profiles)
    → IsPermutation a.config b.config → IsPermutation a.credentials b.credentials
    → HasKeysOnce a.config → HasKeysOnce a.credentials
    → settings_of line env a ≡ settings_of line env b
