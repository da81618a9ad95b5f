-- Whole texts, read from the left: the expression of a text, or its first fault.
use Rattle.std.specs.Prelude.{◌≡◌, ℕ, ◌+◌, ◌-◌, ◌==◌, Bool, true, false, if◌then◌else◌, List, [], ◌∷◌, length, slice_index, encode_utf8_all, Result, Ok, Err}
use Rattle.json_doc.specs.Scan.{skipped}
use Rattle.jmes_syntax.specs.declared.expr.Expr.{Expr}
use Rattle.jmes_syntax.specs.declared.parse_fault.ParseFault.{ParseFault}
use Rattle.jmes_syntax.specs.declared.parse_fault.ParseFault.TheVariants.{Syntax, UnknownFunction, Arity, OutOfMemory}
use Rattle.jmes_syntax.specs.declared.reader.Level.TheVariants as level
use Rattle.jmes_syntax.specs.declared.stop.Stop.{Stop}
use Rattle.jmes_syntax.specs.declared.stop.Stop.TheVariants as stop
use Rattle.jmes_syntax.specs.declared.token.Token.{Token}
use Rattle.jmes_syntax.specs.Lexing.{Lexes}
use Rattle.jmes_syntax.specs.Reading.{Read}
use Rattle.texts.specs.Calls.{◌>>=◌}
use Rattle.jmes_syntax.specs.Scan.{Joined}

-- an expression, behind which nothing is due
abbrev pub ended : Bool → Expr → List Token → Result Expr Stop
ended is_end e (t ∷ ts) = Err (stop.Syntax (length (t ∷ ts)))
ended true e [] = Ok e
ended false e [] = Err (stop.Syntax 0)

-- all tokens give this; behind them the text ends, or no token stands
abbrev pub Whole : List Token → Bool → Result Expr Stop → Type 0
Whole ts is_end r = (o : Read Expr) × Joined level.Pipe 0 ts o × (r ≡ (o >>= (λ x. ended is_end x.0 x.1)))

-- how many bytes are left where so many tokens are
abbrev pub left_at : List ℕ → ℕ → ℕ → ℕ
left_at lefts left n = if n == 0 then left else slice_index lefts (length lefts - n)

-- the bytes of a text, read as tokens and then from the left, give this
pub record Scans (bytes : List ℕ) (r : Result Expr Stop) : Type 0 where
  pub tokens : List Token
  pub lefts : List ℕ
  pub left : ℕ
  pub lexed : Lexes (skipped bytes) tokens lefts left
  pub read : Whole tokens (left == 0) r

-- the fault of this reason stands here; `total` counts the bytes
abbrev pub IsPlaced : List ℕ → ℕ → ℕ → Stop → ParseFault → Type 0
IsPlaced lefts left total (stop.Syntax n) f = (at : ℕ) × (f ≡ Syntax at) × (at + left_at lefts left n ≡ total)
IsPlaced lefts left total (stop.UnknownFunction n) f = (at : ℕ) × (f ≡ UnknownFunction at) × (at + left_at lefts left n ≡ total)
IsPlaced lefts left total (stop.Arity n) f = (at : ℕ) × (f ≡ Arity at) × (at + left_at lefts left n ≡ total)
IsPlaced lefts left total stop.OutOfMemory f = f ≡ OutOfMemory

-- bytes read from the left stop for a reason whose place this fault tells; want of memory is none
pub record HasFaultIn (bytes : List ℕ) (f : ParseFault) : Type 0 where
  pub reason : Stop
  pub stops : Scans bytes (Err reason)
  pub real : reason ≡ stop.OutOfMemory → ⊥
  pub placed : IsPlaced stops.lefts stops.left (length bytes) reason f

-- the first fault of a text, at its offset in bytes
abbrev pub HasFault : List ℕ → ParseFault → Type 0
HasFault text f = HasFaultIn (encode_utf8_all text) f
