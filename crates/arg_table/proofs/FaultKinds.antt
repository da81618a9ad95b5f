-- Which faults are due of words, and which beside a table.
use Rattle.std.proofs.Common.{ℕ, Bool, true, false, if◌then◌else◌, List, [], ◌∷◌, Option, None, Some}
use Rattle.std.specs.Prelude.{◌++◌, Result, Ok, Err, ◌&&◌, not, is_some, option_map, bytes_eq, codes, encode_utf8_all}
use Rattle.arg_table.specs.declared.command.CommandHead.{CommandHead}
use Rattle.arg_table.specs.declared.fault.UsageFault.{UsageFault}
use Rattle.arg_table.specs.declared.fault.UsageFault.TheVariants.{BadChoice}
use Rattle.arg_table.specs.declared.meaning.Meaning.{Meaning}
use Rattle.arg_table.specs.declared.meaning.Meaning.TheVariants as meaning
use Rattle.arg_table.specs.declared.settings.Setting.{Setting}
use Rattle.arg_table.specs.declared.settings.Setting.TheVariants.{Value}
use Rattle.arg_table.specs.declared.table.ArgTable.{ArgTable}
use Rattle.arg_table.specs.declared.table.Takes.{Takes}
use Rattle.arg_table.specs.declared.table.Takes.TheVariants.{NoValue, OneValue, AnyNumber}
use Rattle.arg_table.specs.declared.words.Group.{Group}
use Rattle.texts.specs.Calls.{◌>>=◌}
use Rattle.arg_table.specs.Counts.{count_of}
use Rattle.arg_table.specs.Given.{no_more, sole_in, sole, or_bad_count, sole_count, listed, words_of, given_as, given_in}
use Rattle.arg_table.specs.Heads.{Next, front_taken, next_in, next_word, tail_taken, tail_in, tail_of, is_wait, named_by, head_of}
use Rattle.arg_table.specs.Laws.{IsHeadFault, IsLineFault, IsValueOr}
use Rattle.arg_table.specs.Lines.{line_of, line_from, conflict_of, missing_of, no_conflict, no_missing}
use Rattle.arg_table.specs.Settings.{Taken, is_format, takes_value, flag_named, valued, value_taken, flag_taken, setting_taken}
use Rattle.arg_table.specs.Tables.{meaning_of}
use Rattle.arg_table.specs.Words.{cut, values_of}

value_then : {A B : Type 0} (IsFault : UsageFault → Type 0) (r : Result A UsageFault) (f : A → Result B UsageFault)
    → IsValueOr IsFault r → ((x : A) → IsValueOr IsFault (f x)) → IsValueOr IsFault (r >>= f)
value_then IsFault (Ok x) f first next = next x
value_then IsFault (Err e) f first next = first

valued_due : (name value : List ℕ) → IsValueOr IsHeadFault (valued name value)
valued_due name value = by (bytes_eq name (codes "output") && not (is_format value))
  where
    by : (b : Bool) → IsValueOr {T = Setting} IsHeadFault (if b then Err (BadChoice name) else Ok (Value name value))
    by true = tt
    by false = tt

value_due : (name : List ℕ) (values : List (List ℕ)) → IsValueOr IsHeadFault (value_taken name values)
value_due name [] = tt
value_due name (v ∷ vs) =
    value_then IsHeadFault (valued name v) (λ setting. Ok (record { taken = setting; left = vs })) (valued_due name v) (λ setting. tt)

flag_due : (g : Group) (s : Setting) → IsValueOr IsHeadFault (flag_taken g s)
flag_due g s = by (is_some g.joined)
  where
    by : (b : Bool) → IsValueOr {T = Taken Setting} IsHeadFault (if b then Err (BadChoice g.option) else Ok (record { taken = s; left = g.words }))
    by true = tt
    by false = tt

abbrev IsDue : Option (Result (Taken Setting) UsageFault) → Type 0
IsDue None = Unit {0}
IsDue (Some taken) = IsValueOr IsHeadFault taken

setting_due : (g : Group) → IsDue (setting_taken g)
setting_due g = by (takes_value g.option) (flag_named g.option)
  where
    by : (b : Bool) (flag : Option Setting) → IsDue (if b then Some (value_taken g.option (values_of g)) else option_map (flag_taken g) flag)
    by true flag = value_due g.option (values_of g)
    by false None = tt
    by false (Some s) = flag_due g s

front_due : (name : List ℕ) (taken : Option (Result (Taken Setting) UsageFault)) → IsDue taken → IsValueOr IsHeadFault (front_taken name taken)
front_due name None due = tt
front_due name (Some taken) due = due

next_due : (words : List (List ℕ)) (gs : List Group) → IsValueOr IsHeadFault (next_in words gs)
next_due (w ∷ ws) gs = tt
next_due [] [] = tt
next_due [] (g ∷ gs) =
    value_then IsHeadFault (front_taken g.option (setting_taken g)) _ (front_due g.option (setting_taken g) (setting_due g))
    (λ setting. value_then IsHeadFault (next_in setting.left gs) _ (next_due setting.left gs) (λ next. tt))

tail_taken_due : (g : Group) (taken : Option (Result (Taken Setting) UsageFault)) → IsDue taken → IsValueOr IsHeadFault (tail_taken g taken)
tail_taken_due g None due = tt
tail_taken_due g (Some taken) due = value_then IsHeadFault taken _ due (λ setting. tt)

tail_due : (words : List (List ℕ)) (gs : List Group) → IsValueOr IsHeadFault (tail_in words gs)
tail_due (w ∷ ws) gs = tt
tail_due [] [] = tt
tail_due [] (g ∷ gs) =
    value_then IsHeadFault (tail_taken g (setting_taken g)) _ (tail_taken_due g (setting_taken g) (setting_due g))
    (λ part. value_then IsHeadFault (tail_in part.left gs) _ (tail_due part.left gs) (λ tail. tt))

abbrev at_waiter : Next → Next → Result Next UsageFault
at_waiter operation waiter = Ok (record { settings = operation.settings ++ waiter.settings; word = waiter.word; behind = waiter.behind })

named_due : (operation : Next) → IsValueOr IsHeadFault (named_by operation)
named_due operation = by (is_wait operation.word)
  where
    by : (b : Bool) → IsValueOr IsHeadFault (if b then next_word operation.behind >>= at_waiter operation else Ok operation)
    by true = value_then IsHeadFault (next_word operation.behind) (at_waiter operation) (next_due operation.behind.plain operation.behind.groups) (λ waiter. tt)
    by false = tt

pub head_due : (words : List (List ℕ)) → IsValueOr IsHeadFault (head_of words)
unfolding head_of
head_due words =
    value_then IsHeadFault (next_word (cut words)) _ (next_due (cut words).plain (cut words).groups)
    (λ service. value_then IsHeadFault (next_word service.behind) _ (next_due service.behind.plain service.behind.groups)
    (λ operation. value_then IsHeadFault (named_by operation) _ (named_due operation)
    (λ named. value_then IsHeadFault (tail_of named.behind) _ (tail_due named.behind.plain named.behind.groups) (λ tail. tt))))

no_more_due : {T : Type 0} (words : List (List ℕ)) (x : T) → IsValueOr IsLineFault (no_more words x)
no_more_due [] x = tt
no_more_due (w ∷ ws) x = tt

sole_due : {T : Type 0} (read : List ℕ → Result T UsageFault) (name : List ℕ) (values : List (List ℕ)) → ((v : List ℕ) → IsValueOr IsLineFault (read v))
    → IsValueOr IsLineFault (sole_in read name values)
sole_due read name [] due = tt
sole_due read name (v ∷ vs) due = value_then IsLineFault (read v) (no_more vs) (due v) (no_more_due vs)

count_due : (name : List ℕ) (count : Option ℕ) → IsValueOr IsLineFault (or_bad_count name count)
count_due name None = tt
count_due name (Some n) = tt

sole_count_due : (least most : ℕ) (g : Group) → IsValueOr IsLineFault (sole_count least most g)
sole_count_due least most g =
    sole_due (λ v. or_bad_count g.option (count_of least most (encode_utf8_all v))) g.option (values_of g)
    (λ v. count_due g.option (count_of least most (encode_utf8_all v)))

listed_due : (joined : Option (List ℕ)) (words : List (List ℕ)) → IsValueOr IsLineFault (listed joined words)
listed_due None words = tt
listed_due (Some v) words = no_more_due words (v ∷ [])

words_due : (takes : Takes) (g : Group) → IsValueOr IsLineFault (words_of takes g)
words_due NoValue g = by (is_some g.joined)
  where
    by : (b : Bool) → IsValueOr {T = List (List ℕ)} IsLineFault (if b then Err (BadChoice g.option) else no_more g.words [])
    by true = tt
    by false = no_more_due g.words []
words_due OneValue g = sole_due (λ v. Ok (v ∷ [])) g.option (values_of g) (λ v. tt)
words_due AnyNumber g = listed_due g.joined g.words

given_due : (g : Group) (m : Option Meaning) → IsValueOr IsLineFault (given_as g m)
given_due g None = tt
given_due g (Some meaning.InputJson) = value_then IsLineFault (sole Ok g) _ (sole_due Ok g.option (values_of g) (λ v. tt)) (λ text. tt)
given_due g (Some meaning.StartingToken) = value_then IsLineFault (sole Ok g) _ (sole_due Ok g.option (values_of g) (λ v. tt)) (λ text. tt)
given_due g (Some meaning.MaxItems) = value_then IsLineFault (sole_count 0 1000000000000 g) _ (sole_count_due 0 1000000000000 g) (λ count. tt)
given_due g (Some meaning.PageSize) = value_then IsLineFault (sole_count 1 2147483647 g) _ (sole_count_due 1 2147483647 g) (λ count. tt)
given_due g (Some (meaning.Argument m)) = value_then IsLineFault (words_of m.takes g) _ (words_due m.takes g) (λ words. tt)

all_given_due : (table : ArgTable) (waits : Bool) (gs : List Group) → IsValueOr IsLineFault (given_in table waits gs)
all_given_due table waits [] = tt
all_given_due table waits (g ∷ gs) =
    value_then IsLineFault (given_as g (meaning_of table waits g.option)) _ (given_due g (meaning_of table waits g.option))
    (λ first. value_then IsLineFault (given_in table waits gs) _ (all_given_due table waits gs) (λ others. tt))

conflict_due : (name : Option (List ℕ)) → IsValueOr IsLineFault (no_conflict name)
conflict_due None = tt
conflict_due (Some name) = tt

missing_due : (names : List (List ℕ)) → IsValueOr IsLineFault (no_missing names)
missing_due [] = tt
missing_due (name ∷ names) = tt

pub line_due : (table : ArgTable) (head : CommandHead) → IsValueOr IsLineFault (line_of table head)
unfolding line_of
line_due table head =
    value_then IsLineFault (given_in table head.wait head.tail) _ (all_given_due table head.wait head.tail)
    (λ givens. value_then IsLineFault (no_conflict (conflict_of table head.paginate givens (line_from givens))) _
    (conflict_due (conflict_of table head.paginate givens (line_from givens)))
    (λ apart. value_then IsLineFault (no_missing (missing_of table (line_from givens))) _ (missing_due (missing_of table (line_from givens))) (λ whole. tt)))
