-- A line as a command: `[settings] SERVICE OPERATION [arguments and settings]`, or `wait` and the name of
-- a waiter for the operation. Faults are found from left to right.
use Rattle.std.specs.Prelude.{ℕ, Bool, List, [], ◌∷◌, ◌++◌, if◌then◌else◌, Option, None, Some, Result, Ok, Err, bytes_eq, codes}
use Rattle.std.specs.List.{list_all}
use Rattle.arg_table.specs.declared.fault.UsageFault.{UsageFault}
use Rattle.arg_table.specs.declared.fault.UsageFault.TheVariants.{UnknownOption, NoCommand, ExtraWord}
use Rattle.arg_table.specs.declared.command.CommandHead.{CommandHead}
use Rattle.arg_table.specs.declared.settings.Setting.{Setting}
use Rattle.arg_table.specs.declared.words.Group.{Group}
use Rattle.texts.specs.Calls.{◌>>=◌}
use Rattle.arg_table.specs.Settings.{Taken, setting_taken, pairs_in, keeps_signature, keeps_paging}
use Rattle.arg_table.specs.Words.{Cut, cut}

-- a word of the command, the settings before it, and what stands behind it
pub record Next : Type 0 where
  pub settings : List Setting
  pub word : List ℕ
  pub behind : Cut

-- before the command is complete an option is a settings option
abbrev pub front_taken : List ℕ → Option (Result (Taken Setting) UsageFault) → Result (Taken Setting) UsageFault
front_taken name None = Err (UnknownOption name)
front_taken name (Some taken) = taken

-- the next word of the command is the first plain one that no setting takes
abbrev pub next_in : List (List ℕ) → List Group → Result Next UsageFault
next_in (w ∷ ws) gs = Ok (record { settings = []; word = w; behind = record { plain = ws; groups = gs } })
next_in [] [] = Err NoCommand
next_in [] (g ∷ gs) = do
  setting ← front_taken g.option (setting_taken g)
  next ← next_in setting.left gs
  Ok (record { settings = setting.taken ∷ next.settings; word = next.word; behind = next.behind })

abbrev pub next_word : Cut → Result Next UsageFault
next_word words = next_in words.plain words.groups

-- what stands behind the command: its settings, and the other groups
pub record Tail : Type 0 where
  pub settings : List Setting
  pub groups : List Group

-- behind the command an option that is no settings option keeps all of its words
abbrev pub tail_taken : Group → Option (Result (Taken Setting) UsageFault) → Result (Taken Tail) UsageFault
tail_taken g None = Ok (record { taken = record { settings = []; groups = g ∷ [] }; left = [] })
tail_taken g (Some taken) = do
  setting ← taken
  Ok (record { taken = record { settings = setting.taken ∷ []; groups = [] }; left = setting.left })

-- a plain word that nothing takes is one too many
abbrev pub tail_in : List (List ℕ) → List Group → Result Tail UsageFault
tail_in (w ∷ ws) gs = Err (ExtraWord w)
tail_in [] [] = Ok (record { settings = []; groups = [] })
tail_in [] (g ∷ gs) = do
  part ← tail_taken g (setting_taken g)
  tail ← tail_in part.left gs
  Ok (record { settings = part.taken.settings ++ tail.settings; groups = part.taken.groups ++ tail.groups })

abbrev pub tail_of : Cut → Result Tail UsageFault
tail_of words = tail_in words.plain words.groups

abbrev pub is_wait : List ℕ → Bool
is_wait word = bytes_eq word (codes "wait")

-- the operation, or the waiter that is named behind `wait`
abbrev pub named_by : Next → Result Next UsageFault
named_by operation =
    if is_wait operation.word
    then (do
      waiter ← next_word operation.behind
      Ok (record { settings = operation.settings ++ waiter.settings; word = waiter.word; behind = waiter.behind }))
    else Ok operation

abbrev pub head_with : List Setting → List ℕ → List ℕ → Bool → List Group → CommandHead
head_with settings service operation wait groups = record {
  pairs = pairs_in settings;
  sign = list_all keeps_signature settings;
  paginate = list_all keeps_paging settings;
  service = service;
  operation = operation;
  wait = wait;
  tail = groups;
}

-- the command that a line is, or its first fault
unfoldable pub head_of : List (List ℕ) → Result CommandHead UsageFault
head_of words = do
  service ← next_word (cut words)
  operation ← next_word service.behind
  named ← named_by operation
  tail ← tail_of named.behind
  Ok (head_with (service.settings ++ named.settings ++ tail.settings) service.word named.word (is_wait operation.word) tail.groups)
