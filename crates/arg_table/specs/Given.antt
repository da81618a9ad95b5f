-- What each option of a line gives, and its faults from left to right.
use Rattle.std.specs.Prelude.{ℕ, Bool, List, [], ◌∷◌, if◌then◌else◌, Option, None, Some, is_some, Result, Ok, Err, encode_utf8_all}
use Rattle.arg_table.specs.declared.fault.UsageFault.{UsageFault}
use Rattle.arg_table.specs.declared.fault.UsageFault.TheVariants.{MissingValue, UnknownArgument, ExtraWord, BadChoice, BadCount}
use Rattle.arg_table.specs.declared.given.Given.{Given}
use Rattle.arg_table.specs.declared.given.Given.TheVariants as given
use Rattle.arg_table.specs.declared.meaning.Meaning.{Meaning}
use Rattle.arg_table.specs.declared.meaning.Meaning.TheVariants as meaning
use Rattle.arg_table.specs.declared.table.ArgTable.{ArgTable}
use Rattle.arg_table.specs.declared.table.Takes.{Takes}
use Rattle.arg_table.specs.declared.table.Takes.TheVariants.{NoValue, OneValue, AnyNumber}
use Rattle.arg_table.specs.declared.words.Group.{Group}
use Rattle.texts.specs.Calls.{◌>>=◌}
use Rattle.arg_table.specs.Counts.{count_of}
use Rattle.arg_table.specs.Tables.{meaning_of}
use Rattle.arg_table.specs.Words.{values_of}

-- a further word is one too many
abbrev pub no_more : {T : Type 0} → List (List ℕ) → T → Result T UsageFault
no_more [] x = Ok x
no_more (w ∷ ws) x = Err (ExtraWord w)

-- one value, as it is read, and no further word
abbrev pub sole_in : {T : Type 0} → (List ℕ → Result T UsageFault) → List ℕ → List (List ℕ) → Result T UsageFault
sole_in read name [] = Err (MissingValue name)
sole_in read name (v ∷ vs) = do
  x ← read v
  no_more vs x

abbrev pub sole : {T : Type 0} → (List ℕ → Result T UsageFault) → Group → Result T UsageFault
sole read g = sole_in read g.option (values_of g)

abbrev pub or_bad_count : List ℕ → Option ℕ → Result ℕ UsageFault
or_bad_count name None = Err (BadCount name)
or_bad_count name (Some n) = Ok n

-- one count in a range
abbrev pub sole_count : ℕ → ℕ → Group → Result ℕ UsageFault
sole_count least most g = sole (λ v. or_bad_count g.option (count_of least most (encode_utf8_all v))) g

-- any number of words, or one joined value
abbrev pub listed : Option (List ℕ) → List (List ℕ) → Result (List (List ℕ)) UsageFault
listed None words = Ok words
listed (Some v) words = no_more words (v ∷ [])

-- the words of an argument
abbrev pub words_of : Takes → Group → Result (List (List ℕ)) UsageFault
words_of NoValue g = if is_some g.joined then Err (BadChoice g.option) else no_more g.words []
words_of OneValue g = sole (λ v. Ok (v ∷ [])) g
words_of AnyNumber g = listed g.joined g.words

-- what a group gives, by what its option means
abbrev pub given_as : Group → Option Meaning → Result Given UsageFault
given_as g None = Err (UnknownArgument g.option)
given_as g (Some meaning.InputJson) = do
  text ← sole Ok g
  Ok (given.InputJson text)
given_as g (Some meaning.StartingToken) = do
  text ← sole Ok g
  Ok (given.StartingToken text)
given_as g (Some meaning.MaxItems) = do
  count ← sole_count 0 1000000000000 g
  Ok (given.MaxItems count)
given_as g (Some meaning.PageSize) = do
  count ← sole_count 1 2147483647 g
  Ok (given.PageSize count)
given_as g (Some (meaning.Argument m)) = do
  words ← words_of m.takes g
  Ok (given.Argument (record { member = m.member; words = words; no = m.no }))

-- what all groups give, or the first fault
abbrev pub given_in : ArgTable → Bool → List Group → Result (List Given) UsageFault
given_in table waits [] = Ok []
given_in table waits (g ∷ gs) = do
  first ← given_as g (meaning_of table waits g.option)
  others ← given_in table waits gs
  Ok (first ∷ others)
