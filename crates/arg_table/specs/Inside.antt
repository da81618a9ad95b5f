-- Words of private contracts alone; no public contract cites them: what the code takes of the words that are
-- left, beside the groups that they are cut into, and what its tables tell.
use Rattle.std.specs.Prelude.{◌≡◌, ◌≤◌, ℕ, nat_eq, List, [], ◌∷◌, ◌++◌, length, Option, None, Some, Result, Ok, Err}
use Rattle.std.specs.Borrow.{Bor}
use Rattle.std.specs.Cmp.Lexicographic.{pointwise}
use Rattle.indexmap.specs.IndexMap.{IndexMap, get}
use Rattle.texts.specs.Calls.{Unless}
use Rattle.texts.specs.declared.memory.OutOfMemory.{OutOfMemory as NoMemory}
use Rattle.arg_table.specs.declared.fault.UsageFault.{UsageFault}
use Rattle.arg_table.specs.declared.fault.UsageFault.TheVariants.{MissingValue}
use Rattle.arg_table.specs.declared.lines.Gathered.{Gathered}
use Rattle.arg_table.specs.declared.meaning.Meant.{Meant}
use Rattle.arg_table.specs.declared.settings.Setting.{Setting}
use Rattle.arg_table.specs.declared.table.Argument.{Argument}
use Rattle.arg_table.specs.declared.words.Group.{Group}
use Rattle.arg_table.specs.declared.words.OptionWord.{OptionWord}
use Rattle.arg_table.specs.Faults.{is_memory}
use Rattle.arg_table.specs.Heads.{Next, Tail}
use Rattle.arg_table.specs.Lines.{members_of}
use Rattle.arg_table.specs.Settings.{setting_taken}
use Rattle.arg_table.specs.Tables.{argument_named}
use Rattle.arg_table.specs.Words.{cut, group_of, values_of}

-- the group of an option with these words behind it
abbrev pub group_at : OptionWord → List (List ℕ) → Group
group_at option behind = group_of option (cut behind).plain

-- the same groups are left, and no more words
pub record IsLeft (behind left : List (List ℕ)) : Type 0 where
  pub groups : (cut left).groups ≡ (cut behind).groups
  pub shorter : length left ≤ length behind

-- the first value is taken, where there is one
abbrev pub TakesValue : OptionWord → List (List ℕ) → Result (List ℕ × Bor (List (List ℕ))) UsageFault → Type 0
TakesValue option behind (Ok r) = (values_of (group_at option behind) ≡ r.0 ∷ (cut r.1.now).plain) × IsLeft behind r.1.now
TakesValue option behind (Err e) = Unless (is_memory e) ((values_of (group_at option behind) ≡ []) × (e ≡ MissingValue option.name))

-- what a settings option takes is taken
abbrev pub TakesSetting : OptionWord → List (List ℕ) → Result (Option (Setting × Bor (List (List ℕ)))) UsageFault → Type 0
TakesSetting option behind (Ok (Some r)) =
    (setting_taken (group_at option behind) ≡ Some (Ok (record { taken = r.0; left = (cut r.1.now).plain }))) × IsLeft behind r.1.now
TakesSetting option behind (Ok None) = setting_taken (group_at option behind) ≡ None
TakesSetting option behind (Err e) = Unless (is_memory e) (setting_taken (group_at option behind) ≡ Some (Err e))

-- the group of an option is put at the end
abbrev pub TakesGroup : List Group → List Group → OptionWord → List (List ℕ) → Result (Bor (List (List ℕ))) NoMemory → Type 0
TakesGroup before after option behind (Ok left) =
    (after ≡ before ++ group_at option behind ∷ []) × ((cut left.now).plain ≡ []) × IsLeft behind left.now
TakesGroup before after option behind (Err e) = Unit {0}

-- what is found, with the settings that were found before in front
abbrev pub next_after : List Setting → Result Next UsageFault → Result Next UsageFault
next_after settings (Ok n) = Ok (record { settings = settings ++ n.settings; word = n.word; behind = n.behind })
next_after settings (Err e) = Err e

-- and with the groups
abbrev pub tail_after : List Setting → List Group → Result Tail UsageFault → Result Tail UsageFault
tail_after settings groups (Ok t) = Ok (record { settings = settings ++ t.settings; groups = groups ++ t.groups })
tail_after settings groups (Err e) = Err e

-- the first value of an option is found, and the words behind it; it is missing where there is none
abbrev pub IsFirst : Group → Result (Bor (List ℕ) × Bor (List (List ℕ))) UsageFault → Type 0
IsFirst g (Ok r) = values_of g ≡ r.0.now ∷ r.1.now
IsFirst g (Err e) = Unless (is_memory e) ((values_of g ≡ []) × (e ≡ MissingValue g.option))

-- the members of a line's arguments are gathered beside it
abbrev pub IsGathered : Gathered → Type 0
IsGathered gathered = gathered.members.keys ≡ members_of gathered.line.args

-- what was meant before, or else this
abbrev pub or_meant : Option Meant → Option Meant → Option Meant
or_meant (Some m) other = Some m
or_meant None other = other

-- a table of names tells what each name means
abbrev pub IsNamed : {S : Type 0} → List Argument → IndexMap (List ℕ) Meant S → Type 0
IsNamed arguments names = (name : List ℕ) → get (pointwise nat_eq) names name ≡ argument_named arguments name
