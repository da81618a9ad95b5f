-- The waiters of a service: botocore's `waiters-2.json`.
use Rattle.std.specs.Prelude.{ℕ, ◌≤◌, Bool, true, false, not, ◌&&◌, nat_le, List, [], ◌∷◌, if◌then◌else◌, ℤ, pos, negsuc, Option, None, Some, is_some, ◌||◌, Result, Ok, bytes_eq, codes}
use Rattle.json_doc.specs.declared.doc.Doc.{Doc}
use Rattle.json_doc.specs.declared.doc.Doc.TheOpen.{Doc-F}
use Rattle.json_doc.specs.declared.doc.Doc.TheViews.{out-Doc}
use Rattle.json_doc.specs.DecimalValue.{whole}
use Rattle.texts.specs.declared.pairs.Pair.{Pair}
use Rattle.model_files.specs.declared.fault.ModelFault.{ModelFault}
use Rattle.model_files.specs.declared.fault.ModelFault.TheVariants.{Missing, WrongKind}
use Rattle.model_files.specs.declared.fault.Place.TheVariants.{At}
use Rattle.model_files.specs.declared.waiters.State.{State}
use Rattle.model_files.specs.declared.waiters.State.TheVariants as state
use Rattle.model_files.specs.declared.waiters.Matcher.{Matcher}
use Rattle.model_files.specs.declared.waiters.Matcher.TheVariants.{Path, PathAll, PathAny, Status, Error}
use Rattle.model_files.specs.declared.waiters.Acceptor.{Acceptor}
use Rattle.model_files.specs.declared.waiters.WaiterRow.{WaiterRow}
use Rattle.model_files.specs.Faults.{inside, or_fault, demand, each, each_from}
use Rattle.texts.specs.Calls.{◌>>=◌}
use Rattle.model_files.specs.Names.{command_name}
use Rattle.model_files.specs.Reading.{Fields, fields_of, object_at, text_at, items_at, needed, maybe_text}

-- a number from the least to the most
abbrev pub in_range : ℕ → ℕ → Option ℤ → Option ℕ
in_range least most (Some (pos n)) = if nat_le least n && nat_le n most then Some n else None
in_range least most (Some (negsuc n)) = None
in_range least most None = None

abbrev pub whole_in : ℕ → ℕ → Doc-F Doc → Option ℕ
whole_in least most (Doc-F.Number n) = in_range least most (whole n)
whole_in least most _ = None

-- a whole number in a range
unfoldable pub whole_between : ℕ → ℕ → Doc → Option ℕ
whole_between least most doc = whole_in least most (out-Doc doc)

-- the whole number in a range at a key
unfoldable pub number_at : List ℕ → ℕ → ℕ → Fields → Result ℕ ModelFault
number_at key least most fields = do
  doc ← needed key fields
  or_fault (WrongKind (At key)) (whole_between least most doc)

abbrev pub state_named : List ℕ → Option State
state_named t =
    if bytes_eq t (codes "success") then Some state.Success else
    if bytes_eq t (codes "failure") then Some state.Failure else
    if bytes_eq t (codes "retry") then Some state.Retry else None

unfoldable pub state_of : Fields → Result State ModelFault
state_of fields = do
  name ← text_at (codes "state") fields
  or_fault (WrongKind (At (codes "state"))) (state_named name)

abbrev pub matcher_named : List ℕ → Option Matcher
matcher_named t =
    if bytes_eq t (codes "path") then Some Path else
    if bytes_eq t (codes "pathAll") then Some PathAll else
    if bytes_eq t (codes "pathAny") then Some PathAny else
    if bytes_eq t (codes "status") then Some Status else
    if bytes_eq t (codes "error") then Some Error else None

unfoldable pub matcher_of : Fields → Result Matcher ModelFault
matcher_of fields = do
  name ← text_at (codes "matcher") fields
  or_fault (WrongKind (At (codes "matcher"))) (matcher_named name)

-- the matchers of paths need a query
abbrev pub needs_query : Matcher → Bool
needs_query Path = true
needs_query PathAll = true
needs_query PathAny = true
needs_query Status = false
needs_query Error = false

unfoldable pub argument_of : Matcher → Fields → Result (Option (List ℕ)) ModelFault
argument_of matcher fields = do
  argument ← maybe_text (codes "argument") fields
  demand (is_some argument || not (needs_query matcher)) (Missing (At (codes "argument"))) (Ok argument)

unfoldable pub acceptor_of : Doc → Result Acceptor ModelFault
acceptor_of doc = do
  fields ← fields_of doc
  state ← state_of fields
  matcher ← matcher_of fields
  argument ← argument_of matcher fields
  expected ← needed (codes "expected") fields
  Ok (record { state = state; matcher = matcher; argument = argument; expected = expected })

unfoldable pub acceptors_of : Fields → Result (List Acceptor) ModelFault
acceptors_of fields = do
  items ← items_at (codes "acceptors") fields
  inside (codes "acceptors") (each_from acceptor_of 0 items)

-- how many seconds lie between two calls
unfoldable pub delay_of : Fields → Result ℕ ModelFault
delay_of fields = number_at (codes "delay") 0 86400 fields

-- how many calls there are at most
unfoldable pub tries_of : Fields → Result ℕ ModelFault
tries_of fields = number_at (codes "maxAttempts") 1 100000 fields

unfoldable pub row_of : Pair Doc → Result WaiterRow ModelFault
row_of p = do
  fields ← fields_of p.value
  operation ← text_at (codes "operation") fields
  delay ← delay_of fields
  tries ← tries_of fields
  acceptors ← acceptors_of fields
  Ok (record { name = p.key; command = command_name p.key; operation = operation; delay = delay; tries = tries; acceptors = acceptors })

-- what the file says
unfoldable pub waiters_of : Doc → Result (List WaiterRow) ModelFault
waiters_of doc = do
  fields ← fields_of doc
  pairs ← object_at (codes "waiters") fields
  inside (codes "waiters") (each row_of pairs)

-- a waiter's delay and its number of calls are in their limits
pub record IsWaiterRow (row : WaiterRow) : Type 0 where
  pub delay : row.delay ≤ 86400
  pub least_tries : 1 ≤ row.tries
  pub most_tries : row.tries ≤ 100000

-- the first waiter with a command name
abbrev pub row_named : List ℕ → List WaiterRow → Option WaiterRow
row_named command [] = None
row_named command (r ∷ rs) = if bytes_eq r.command command then Some r else row_named command rs
