-- The forms of a line, as a grammar. They are tried in their order: a form that comes later is that of a
-- line only where no earlier one fits.
use Rattle.std.specs.Prelude.{◌≡◌, ◌≢◌, ℕ, ◌<◌, ◌⊎◌, List, [], ◌∷◌, ◌++◌, length, map, codes, All, Option, None, Some}
use Rattle.std.specs.Char.{to_ascii_lowercase}
use Rattle.std.specs.Str.{chars, IsUtf8}
use Rattle.config_file.specs.declared.fault.FileKind.{FileKind}
use Rattle.config_file.specs.declared.fault.FileKind.TheVariants.{Config, Credentials}
use Rattle.config_file.specs.declared.line.Line.{Line}
use Rattle.config_file.specs.declared.line.Line.TheVariants.{Nothing, Head, Key}
use Rattle.config_file.specs.declared.line.Place.{Place}
use Rattle.config_file.specs.declared.line.Place.TheVariants.{Outside, Opened, Behind}

-- a space or a tab
abbrev pub IsBlank : ℕ → Type 0
IsBlank b = (b ≡ 32) ⊎ (b ≡ 9)

-- no blank at either end
abbrev pub IsTrim : List ℕ → Type 0
IsTrim text = ((b : ℕ) (rest : List ℕ) → text ≡ b ∷ rest → ¬ IsBlank b)
    × ((front : List ℕ) (b : ℕ) → text ≡ front ++ b ∷ [] → ¬ IsBlank b)

-- the line starts with just so many blanks
abbrev pub StartsWithBlanks : ℕ → List ℕ → Type 0
StartsWithBlanks n line = (blanks rest : List ℕ) × (line ≡ blanks ++ rest) × All IsBlank blanks × (length blanks ≡ n)
    × ((b : ℕ) (behind : List ℕ) → rest ≡ b ∷ behind → ¬ IsBlank b)

-- a line of the block below a key: it starts with more blanks than the key's line
abbrev pub IsNested : Place → List ℕ → Type 0
IsNested Outside line = ⊥
IsNested Opened line = ⊥
IsNested (Behind blanks) line = (n : ℕ) × StartsWithBlanks n line × (blanks < n)

-- blanks alone
abbrev pub IsEmptyLine : List ℕ → Type 0
IsEmptyLine line = All IsBlank line

-- `#` or `;` behind blanks
abbrev pub IsComment : List ℕ → Type 0
IsComment line = (blanks : List ℕ) × (mark : ℕ) × (text : List ℕ)
    × (line ≡ blanks ++ mark ∷ text) × All IsBlank blanks × ((mark ≡ 35) ⊎ (mark ≡ 59))

abbrev pub SaysNothing : Place → List ℕ → Type 0
SaysNothing place line = IsNested place line ⊎ (IsEmptyLine line ⊎ IsComment line)

-- `[`, a name that isn't empty, `]` and blanks
abbrev pub IsHead : List ℕ → List ℕ → Type 0
IsHead name line = (blanks : List ℕ) × (line ≡ 91 ∷ name ++ 93 ∷ blanks) × (name ≢ []) × All IsBlank blanks

-- the parts of `key = value`, where the first of the signs `=` and `:` counts
pub record KeyLine (line blanks key value : List ℕ) : Type 0 where
  pub behind : List ℕ
  pub sign : ℕ
  pub before : List ℕ
  pub last : List ℕ
  pub is : line ≡ blanks ++ key ++ behind ++ sign ∷ before ++ value ++ last
  pub is_sign : (sign ≡ 61) ⊎ (sign ≡ 58)
  pub first : All (λ b. (b ≢ 61) × (b ≢ 58)) key
  pub named : key ≢ []
  pub key_trim : IsTrim key
  pub value_trim : IsTrim value
  pub blank : All IsBlank (blanks ++ behind ++ before ++ last)

-- the profile of a section
abbrev pub IsConfigProfile : List ℕ → List ℕ → Type 0
IsConfigProfile name profile = ((name ≡ codes "default") × (profile ≡ name))
    ⊎ (((name ≡ codes "profile \"" ++ profile ++ codes "\"") × All (λ b. b ≢ 34) profile)
    ⊎ ((name ≡ codes "profile " ++ profile) × (profile ≢ []) × All (λ b. (¬ IsBlank b) × (b ≢ 34)) profile))

abbrev pub IsProfileOf : FileKind → List ℕ → List ℕ → Type 0
IsProfileOf Config name profile = IsConfigProfile name profile
IsProfileOf Credentials name profile = profile ≡ name

-- a section of a profile, or one that is ignored
abbrev pub NamesProfile : FileKind → List ℕ → Option (List ℕ) → Type 0
NamesProfile kind name None = (profile : List ℕ) → ¬ IsProfileOf kind name profile
NamesProfile kind name (Some shown) = (profile : List ℕ) × IsProfileOf kind name profile × (shown ≡ chars profile)

abbrev pub IsInSection : Place → Type 0
IsInSection Outside = ⊥
IsInSection Opened = Unit {0}
IsInSection (Behind blanks) = Unit {0}

-- a line in UTF-8 in its place is of this form, and no earlier form fits
abbrev pub IsLine : FileKind → Place → List ℕ → Line → Type 0
IsLine kind place line Nothing = IsUtf8 line × SaysNothing place line
IsLine kind place line (Head profile) = IsUtf8 line × (¬ SaysNothing place line)
    × ((name : List ℕ) × IsHead name line × NamesProfile kind name profile)
IsLine kind place line (Key n key value) = IsUtf8 line × (¬ SaysNothing place line)
    × ((name : List ℕ) → ¬ IsHead name line) × IsInSection place
    × ((blanks raw text : List ℕ) × KeyLine line blanks raw text × (length blanks ≡ n)
    × (key ≡ chars (map to_ascii_lowercase raw)) × (value ≡ chars text))
