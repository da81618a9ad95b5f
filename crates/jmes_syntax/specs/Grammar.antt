-- The grammar of expressions (JMESPath specification, "Grammar"), under the names of its rules. A rule
-- relates the tokens at its start, the tree that they stand for, and the tokens behind it. From the
-- loosest, the operators are `|`, `||`, `&&`, the comparators and `!`. At most 100 brackets stand in one
-- another, `()`, `[]` and `{}` of whatever rule: `n` counts those that are open.
use Rattle.std.specs.Prelude.{◌≡◌, ℕ, ◌+◌, ◌<◌, IsTrue, List, [], ◌∷◌, ◌++◌, length, Option, None, Some, encode_utf8_all}
use Rattle.json_doc.specs.declared.doc.Doc.{Doc}
use Rattle.texts.specs.declared.pairs.Pair.{Pair}
use Rattle.json_doc.specs.Scan.{skipped}
use Rattle.jmes_syntax.specs.declared.chains.Link.{Link}
use Rattle.jmes_syntax.specs.declared.chains.Link.TheVariants as link
use Rattle.jmes_syntax.specs.declared.expr.Argument.{Argument}
use Rattle.jmes_syntax.specs.declared.expr.Argument.TheVariants as argument
use Rattle.jmes_syntax.specs.declared.expr.Chain.{Chain}
use Rattle.jmes_syntax.specs.declared.expr.Comparator.{Comparator}
use Rattle.jmes_syntax.specs.declared.expr.Compared.{Compared}
use Rattle.jmes_syntax.specs.declared.expr.Expr.{Expr}
use Rattle.jmes_syntax.specs.declared.expr.Operand.{Operand}
use Rattle.jmes_syntax.specs.declared.expr.Step.{Step}
use Rattle.jmes_syntax.specs.declared.expr.Step.TheVariants as step
use Rattle.jmes_syntax.specs.declared.function.Function.{Function}
use Rattle.jmes_syntax.specs.declared.reader.Level.{Level}
use Rattle.jmes_syntax.specs.declared.reader.Level.TheVariants as level
use Rattle.jmes_syntax.specs.declared.token.Mark.TheVariants.{Dot, Comma, Colon, Star, Current, Expref, Not, OpenGroup, CloseGroup, OpenBracket, CloseBracket, OpenBrace, CloseBrace, Flatten, OpenFilter}
use Rattle.jmes_syntax.specs.declared.token.Mark.{Mark as AnyMark}
use Rattle.jmes_syntax.specs.declared.token.Token.{Token}
use Rattle.jmes_syntax.specs.declared.token.Token.TheVariants.{Mark, Name, Quoted, Number, Literal}
use Rattle.jmes_syntax.specs.declared.whole.Whole.{Whole}
use Rattle.jmes_syntax.specs.Brackets.{step_of, slice}
use Rattle.jmes_syntax.specs.Chains.{chain_of}
use Rattle.jmes_syntax.specs.Functions.{name_of, arity_of}
use Rattle.jmes_syntax.specs.Lexing.{Lexes}
use Rattle.jmes_syntax.specs.Trees.{mark_of, one_of, comparison, comparator_of, takes, member, compared, operand}

-- identifier = unquoted-string / quoted-string
pub data Identifier : Token → List ℕ → Type 0 where
  unquoted_string : {t : List ℕ} → Identifier (Name t) t
  quoted_string : {t : List ℕ} → Identifier (Quoted t) t

-- [number]
abbrev pub optional : Option Whole → List Token
optional None = []
optional (Some k) = Number k ∷ []

-- slice-expression = [number] ":" [number] [ ":" [number] ], whose step isn't 0
pub data SliceExpression : List Token → Step Expr → Type 0 where
  short_slice : (start stop : Option Whole) → SliceExpression (optional start ++ Mark Colon ∷ optional stop) (slice start stop (step_of None))
  long_slice : (start stop by : Option Whole) → 0 < (step_of by).magnitude → SliceExpression (optional start ++ Mark Colon ∷ optional stop ++ Mark Colon ∷ optional by) (slice start stop (step_of by))

-- `[*]` in front
abbrev pub BeginsWithElements : List Token → Type 0
BeginsWithElements ts = (rest : List Token) × (ts ≡ Mark OpenBracket ∷ Mark Star ∷ Mark CloseBracket ∷ rest)

mutual
  -- pipe-expression = expression "|" expression
  -- or-expression = expression "||" expression
  -- and-expression = expression "&&" expression
  -- At each of these levels an expression is one side, or more with the level's mark between them.
  pub data ExpressionAt : Level → ℕ → List Token → Expr → List Token → Type 0 where
    sides : {l : Level} {n : ℕ} {ts us rest : List Token} {e : Expr} {es : List Expr} → Side l n ts e us → MoreSides l n us es rest → ExpressionAt l n ts (one_of l (e ∷ es)) rest

  -- a side is of the next tighter level
  pub data Side : Level → ℕ → List Token → Expr → List Token → Type 0 where
    pipe_side : {n : ℕ} {ts rest : List Token} {e : Expr} → ExpressionAt level.Or n ts e rest → Side level.Pipe n ts e rest
    or_side : {n : ℕ} {ts rest : List Token} {e : Expr} → ExpressionAt level.And n ts e rest → Side level.Or n ts e rest
    and_side : {n : ℕ} {ts rest : List Token} {e : Expr} → ComparatorExpression n ts e rest → Side level.And n ts e rest

  -- *( mark expression )
  pub data MoreSides : Level → ℕ → List Token → List Expr → List Token → Type 0 where
    no_side : {l : Level} {n : ℕ} {ts : List Token} → MoreSides l n ts [] ts
    more_sides : {l : Level} {n : ℕ} {us vs rest : List Token} {e : Expr} {es : List Expr} → Side l n us e vs → MoreSides l n vs es rest → MoreSides l n (Mark (mark_of l) ∷ us) (e ∷ es) rest

  -- comparator-expression = expression comparator expression
  -- The comparators have one level and are grouped from the left: one operand, or more with a comparator
  -- between them.
  pub data ComparatorExpression : ℕ → List Token → Expr → List Token → Type 0 where
    comparisons : {n : ℕ} {ts us rest : List Token} {a : Operand Expr} {cs : List (Compared Expr)} → NotExpression n ts a us → Comparisons n us cs rest → ComparatorExpression n ts (comparison a cs) rest

  -- *( comparator expression )
  pub data Comparisons : ℕ → List Token → List (Compared Expr) → List Token → Type 0 where
    no_comparison : {n : ℕ} {ts : List Token} → Comparisons n ts [] ts
    more_comparisons : {n : ℕ} {us vs rest : List Token} {m : AnyMark} {c : Comparator} {a : Operand Expr} {cs : List (Compared Expr)} → comparator_of m ≡ Some c → NotExpression n us a vs → Comparisons n vs cs rest → Comparisons n (Mark m ∷ us) (compared c a ∷ cs) rest

  -- not-expression = "!" expression
  -- The expression is the whole chain behind it, perhaps with further `!` in front.
  pub data NotExpression : ℕ → List Token → Operand Expr → List Token → Type 0 where
    no_not : {n : ℕ} {ts rest : List Token} {c : Chain Expr} → ChainAt n ts c rest → NotExpression n ts (operand 0 c) rest
    one_not : {n k : ℕ} {us rest : List Token} {c : Chain Expr} → NotExpression n us (operand k c) rest → NotExpression n (Mark Not ∷ us) (operand (k + 1) c) rest

  -- a chain: a first part, and what goes on with it
  pub data ChainAt : ℕ → List Token → Chain Expr → List Token → Type 0 where
    links : {n : ℕ} {ts us rest : List Token} {k : Link} {ks : List Link} → First n ts k us → Links n us ks rest → ChainAt n ts (chain_of (k ∷ ks)) rest

  -- what goes on with a chain, as often as it does
  pub data Links : ℕ → List Token → List Link → List Token → Type 0 where
    no_link : {n : ℕ} {ts : List Token} → Links n ts [] ts
    more_links : {n : ℕ} {ts us rest : List Token} {k : Link} {ks : List Link} → LinkAt n ts k us → Links n us ks rest → Links n ts (k ∷ ks) rest

  pub data LinkAt : ℕ → List Token → Link → List Token → Type 0 where
    -- sub-expression = expression "." ( identifier / multi-select-list / multi-select-hash / function-expression / "*" )
    sub_expression : {n : ℕ} {us rest : List Token} {s : Step Expr} → Part n us s rest → LinkAt n (Mark Dot ∷ us) (link.Step s) rest
    -- index-expression = expression bracket-specifier
    index_expression : {n : ℕ} {ts rest : List Token} {k : Link} → BracketSpecifier n ts k rest → LinkAt n ts k rest

  -- bracket-specifier = "[" (number / "*" / slice-expression) "]" / "[]" / "[?" expression "]"
  pub data BracketSpecifier : ℕ → List Token → Link → List Token → Type 0 where
    index : {n : ℕ} {rest : List Token} {i : Whole} → n < 100 → BracketSpecifier n (Mark OpenBracket ∷ Number i ∷ Mark CloseBracket ∷ rest) (link.Step (step.Index i)) rest
    elements : {n : ℕ} {rest : List Token} → n < 100 → BracketSpecifier n (Mark OpenBracket ∷ Mark Star ∷ Mark CloseBracket ∷ rest) (link.Step step.Elements) rest
    slice_expression : {n : ℕ} {ts rest : List Token} {s : Step Expr} → n < 100 → SliceExpression ts s → BracketSpecifier n (Mark OpenBracket ∷ (ts ++ Mark CloseBracket ∷ rest)) (link.Step s) rest
    flatten : {n : ℕ} {rest : List Token} → n < 100 → BracketSpecifier n (Mark Flatten ∷ rest) link.Flatten rest
    filter : {n : ℕ} {us rest : List Token} {e : Expr} → n < 100 → ExpressionAt level.Pipe (n + 1) us e (Mark CloseBracket ∷ rest) → BracketSpecifier n (Mark OpenFilter ∷ us) (link.Step (step.FilterProjection e)) rest

  -- what a chain may begin with
  pub data First : ℕ → List Token → Link → List Token → Type 0 where
    -- paren-expression = "(" expression ")"
    paren_expression : {n : ℕ} {us rest : List Token} {e : Expr} → n < 100 → ExpressionAt level.Pipe (n + 1) us e (Mark CloseGroup ∷ rest) → First n (Mark OpenGroup ∷ us) (link.Step (step.Group e)) rest
    -- index-expression = bracket-specifier
    bracket_specifier : {n : ℕ} {ts rest : List Token} {k : Link} → BracketSpecifier n ts k rest → First n ts k rest
    -- current-node = "@"
    current_node : {n : ℕ} {rest : List Token} → First n (Mark Current ∷ rest) (link.Step step.Current) rest
    -- literal or raw-string
    literal : {n : ℕ} {rest : List Token} {d : Doc} → First n (Literal d ∷ rest) (link.Step (step.Literal d)) rest
    -- identifier, multi-select-list, multi-select-hash, function-expression or "*"; where a chain begins,
    -- `[*]` is the bracket-specifier and no list of `*`
    part : {n : ℕ} {ts rest : List Token} {s : Step Expr} → (BeginsWithElements ts → ⊥) → Part n ts s rest → First n ts (link.Step s) rest

  -- what may stand behind a dot, and begin a chain too
  pub data Part : ℕ → List Token → Step Expr → List Token → Type 0 where
    identifier : {n : ℕ} {t : Token} {name : List ℕ} {rest : List Token} → Identifier t name → Part n (t ∷ rest) (step.Field name) rest
    -- multi-select-list = "[" ( expression *( "," expression ) ) "]"
    multi_select_list : {n : ℕ} {us vs rest : List Token} {e : Expr} {es : List Expr} → n < 100 → ExpressionAt level.Pipe (n + 1) us e vs → MoreItems (n + 1) vs es (Mark CloseBracket ∷ rest) → Part n (Mark OpenBracket ∷ us) (step.List (e ∷ es)) rest
    -- multi-select-hash = "{" ( keyval-expr *( "," keyval-expr ) ) "}"
    multi_select_hash : {n : ℕ} {us vs rest : List Token} {p : Pair Expr} {ps : List (Pair Expr)} → n < 100 → KeyvalExpr (n + 1) us p vs → MoreKeyvals (n + 1) vs ps (Mark CloseBrace ∷ rest) → Part n (Mark OpenBrace ∷ us) (step.Hash (p ∷ ps)) rest
    -- function-expression = unquoted-string ( no-args / one-or-more-args ); the name is a function's, and
    -- it takes so many arguments
    function_expression : {n : ℕ} {us rest : List Token} {f : Function} {args : List (Argument Expr)} → n < 100 → IsTrue (takes (arity_of f) (length args)) → Args (n + 1) us args rest → Part n (Name (name_of f) ∷ Mark OpenGroup ∷ us) (step.Call f args) rest
    -- "*"
    values : {n : ℕ} {rest : List Token} → Part n (Mark Star ∷ rest) step.Values rest

  -- *( "," expression )
  pub data MoreItems : ℕ → List Token → List Expr → List Token → Type 0 where
    no_item : {n : ℕ} {ts : List Token} → MoreItems n ts [] ts
    more_items : {n : ℕ} {us vs rest : List Token} {e : Expr} {es : List Expr} → ExpressionAt level.Pipe n us e vs → MoreItems n vs es rest → MoreItems n (Mark Comma ∷ us) (e ∷ es) rest

  -- keyval-expr = identifier ":" expression
  pub data KeyvalExpr : ℕ → List Token → Pair Expr → List Token → Type 0 where
    keyval : {n : ℕ} {t : Token} {name : List ℕ} {us rest : List Token} {e : Expr} → Identifier t name → ExpressionAt level.Pipe n us e rest → KeyvalExpr n (t ∷ Mark Colon ∷ us) (member name e) rest

  -- *( "," keyval-expr )
  pub data MoreKeyvals : ℕ → List Token → List (Pair Expr) → List Token → Type 0 where
    no_keyval : {n : ℕ} {ts : List Token} → MoreKeyvals n ts [] ts
    more_keyvals : {n : ℕ} {us vs rest : List Token} {p : Pair Expr} {ps : List (Pair Expr)} → KeyvalExpr n us p vs → MoreKeyvals n vs ps rest → MoreKeyvals n (Mark Comma ∷ us) (p ∷ ps) rest

  -- what is behind the "(" of a call
  pub data Args : ℕ → List Token → List (Argument Expr) → List Token → Type 0 where
    -- no-args = "(" ")"
    no_args : {n : ℕ} {rest : List Token} → Args n (Mark CloseGroup ∷ rest) [] rest
    -- one-or-more-args = "(" ( function-arg *( "," function-arg ) ) ")"
    one_or_more_args : {n : ℕ} {ts us rest : List Token} {a : Argument Expr} {args : List (Argument Expr)} → FunctionArg n ts a us → MoreArgs n us args (Mark CloseGroup ∷ rest) → Args n ts (a ∷ args) rest

  -- *( "," function-arg )
  pub data MoreArgs : ℕ → List Token → List (Argument Expr) → List Token → Type 0 where
    no_arg : {n : ℕ} {ts : List Token} → MoreArgs n ts [] ts
    more_args : {n : ℕ} {us vs rest : List Token} {a : Argument Expr} {args : List (Argument Expr)} → FunctionArg n us a vs → MoreArgs n vs args rest → MoreArgs n (Mark Comma ∷ us) (a ∷ args) rest

  -- function-arg = expression / expression-type
  pub data FunctionArg : ℕ → List Token → Argument Expr → List Token → Type 0 where
    value : {n : ℕ} {ts rest : List Token} {e : Expr} → ExpressionAt level.Pipe n ts e rest → FunctionArg n ts (argument.Value e) rest
    -- expression-type = "&" expression
    expression_type : {n : ℕ} {us rest : List Token} {e : Expr} → ExpressionAt level.Pipe n us e rest → FunctionArg n (Mark Expref ∷ us) (argument.Expref e) rest

-- a text whose tokens, up to its end, are this expression
abbrev pub Expression : List ℕ → Expr → Type 0
Expression text e = (ts : List Token) × (lefts : List ℕ) × Lexes (skipped (encode_utf8_all text)) ts lefts 0 × ExpressionAt level.Pipe 0 ts e []
