-- Reading an expression from the left, part by part: each part gives its value and the tokens behind it,
-- or the first fault, with how many tokens are left there. `n` counts the brackets that are open, of
-- whatever kind, which are 100 at most.
use Rattle.std.specs.Prelude.{◌≡◌, ℕ, ◌+◌, ◌<◌, ◌≤◌, nat_lt, if◌then◌else◌, List, [], ◌∷◌, ◌++◌, length, Option, None, Some, Result, Ok, Err}
use Rattle.json_doc.specs.declared.doc.Doc.{Doc}
use Rattle.texts.specs.declared.pairs.Pair.{Pair}
use Rattle.jmes_syntax.specs.declared.chains.Link.{Link}
use Rattle.jmes_syntax.specs.declared.chains.Link.TheVariants as link
use Rattle.jmes_syntax.specs.declared.expr.Argument.{Argument}
use Rattle.jmes_syntax.specs.declared.expr.Argument.TheVariants as argument
use Rattle.jmes_syntax.specs.declared.expr.Chain.{Chain}
use Rattle.jmes_syntax.specs.declared.expr.Comparator.{Comparator}
use Rattle.jmes_syntax.specs.declared.expr.Compared.{Compared}
use Rattle.jmes_syntax.specs.declared.expr.Expr.{Expr}
use Rattle.jmes_syntax.specs.declared.expr.Operand.{Operand}
use Rattle.jmes_syntax.specs.declared.expr.Step.{Step}
use Rattle.jmes_syntax.specs.declared.expr.Step.TheVariants as step
use Rattle.jmes_syntax.specs.declared.function.Function.{Function}
use Rattle.jmes_syntax.specs.declared.reader.Level.{Level}
use Rattle.jmes_syntax.specs.declared.reader.Level.TheVariants as level
use Rattle.jmes_syntax.specs.declared.stop.Stop.{Stop}
use Rattle.jmes_syntax.specs.declared.stop.Stop.TheVariants as stop
use Rattle.jmes_syntax.specs.declared.token.Mark.{Mark}
use Rattle.jmes_syntax.specs.declared.token.Mark.TheVariants as mark
use Rattle.jmes_syntax.specs.declared.token.Token.{Token}
use Rattle.jmes_syntax.specs.declared.token.Token.TheVariants as token
use Rattle.jmes_syntax.specs.Brackets.{closed, index_at, behind_index}
use Rattle.jmes_syntax.specs.Chains.{linked, empty_chain}
use Rattle.jmes_syntax.specs.Functions.{arity_of, function_named}
use Rattle.jmes_syntax.specs.Reading.{Read, made, followed, or_else}
use Rattle.texts.specs.Calls.{◌>>=◌}
use Rattle.jmes_syntax.specs.Tokens.{is_mark, behind, past, name_at, quoted_at, literal_at}
use Rattle.jmes_syntax.specs.Trees.{mark_of, one_of, comparison, comparator_of, takes, member, compared, operand}

-- the comparator in front, and what is behind it
abbrev pub comparator_at : List Token → Option (Comparator × List Token)
comparator_at [] = None
comparator_at (token.Mark m ∷ ts) = followed (comparator_of m) ts
comparator_at (t ∷ ts) = None

-- how many `!` stand in front, and what is behind them
abbrev pub negations_at : List Token → ℕ × List Token
negations_at [] = (0, [])
negations_at (t ∷ ts) = if is_mark mark.Not t then (let more = negations_at ts in (more.0 + 1, more.1)) else (0, t ∷ ts)

-- a call, where the function takes so many arguments; `left` counts the tokens from its name on
abbrev pub counted : Function → ℕ → Read (List (Argument Expr)) → Read (Step Expr)
counted f left (Err stop) = Err stop
counted f left (Ok x) = if takes (arity_of f) (length x.0) then Ok (step.Call f x.0, x.1) else Err (stop.Arity left)

-- the name in front, quoted or not, and what is behind it
abbrev pub any_name_at : List Token → Option (List ℕ × List Token)
any_name_at ts = or_else (name_at ts) (quoted_at ts)

abbrev pub before_colon : List Token → Option (List ℕ × List Token) → Read (List ℕ)
before_colon ts None = Err (stop.Syntax (length ts))
before_colon ts (Some key) = closed mark.Colon key.0 key.1

-- a key of a hash and its colon
abbrev pub key_at : List Token → Read (List ℕ)
key_at ts = before_colon ts (any_name_at ts)

-- what a link of a chain gives, where there is one
abbrev pub Linking : Type 0
Linking = Result (Option (Link × List Token)) Stop

abbrev pub linking : {A : Type 0} → (A → Link) → Read A → Linking
linking f (Ok x) = Ok (Some (f x.0, x.1))
linking f (Err stop) = Err stop

-- what stands behind the mark that opens a bracket, where fewer than 100 are open; else that mark is
-- the fault
abbrev pub opened : {A : Type 0} → ℕ → List Token → Read A → Read A
opened n ts o = if nat_lt n 100 then o else Err (stop.Syntax (length ts + 1))

-- an index, a slice or `*` behind `[`
abbrev pub index_in : ℕ → List Token → Read (Step Expr)
index_in n ts = opened n ts (index_at ts)

-- behind `[]`, which opens a bracket too
abbrev pub flatten_in : ℕ → List Token → Read Link
flatten_in n ts = opened n ts (Ok (link.Flatten, ts))

mutual
  -- sides joined by the mark of a level
  pub data Joined : Level → ℕ → List Token → Read Expr → Type 0 where
    sides : {l : Level} {n : ℕ} {ts : List Token} {o : Read (List Expr)} → Sides l n [] ts o → Joined l n ts (made (one_of l) o)

  -- a side is of the next tighter level
  pub data Side : Level → ℕ → List Token → Read Expr → Type 0 where
    pipe_side : {n : ℕ} {ts : List Token} {o : Read Expr} → Joined level.Or n ts o → Side level.Pipe n ts o
    or_side : {n : ℕ} {ts : List Token} {o : Read Expr} → Joined level.And n ts o → Side level.Or n ts o
    and_side : {n : ℕ} {ts : List Token} {o : Read Expr} → Comparison n ts o → Side level.And n ts o

  -- sides that are still to come behind these
  pub data Sides : Level → ℕ → List Expr → List Token → Read (List Expr) → Type 0 where
    bad_side : {l : Level} {n : ℕ} {es : List Expr} {ts : List Token} {s : Stop} → Side l n ts (Err s) → Sides l n es ts (Err s)
    last_side : {l : Level} {n : ℕ} {es : List Expr} {ts us : List Token} {e : Expr} → Side l n ts (Ok (e, us)) → behind (mark_of l) us ≡ None → Sides l n es ts (Ok (es ++ e ∷ [], us))
    more_sides : {l : Level} {n : ℕ} {es : List Expr} {ts us rest : List Token} {e : Expr} {o : Read (List Expr)} → Side l n ts (Ok (e, us)) → behind (mark_of l) us ≡ Some rest → Sides l n (es ++ e ∷ []) rest o → Sides l n es ts o

  -- an operand, and what it is compared with
  pub data Comparison : ℕ → List Token → Read Expr → Type 0 where
    bad_first : {n : ℕ} {ts : List Token} {s : Stop} → OperandAt n ts (Err s) → Comparison n ts (Err s)
    compared_with : {n : ℕ} {ts us : List Token} {a : Operand Expr} {o : Read (List (Compared Expr))} → OperandAt n ts (Ok (a, us)) → Comparisons n [] us o → Comparison n ts (made (comparison a) o)

  pub data Comparisons : ℕ → List (Compared Expr) → List Token → Read (List (Compared Expr)) → Type 0 where
    no_comparator : {n : ℕ} {cs : List (Compared Expr)} {ts : List Token} → comparator_at ts ≡ None → Comparisons n cs ts (Ok (cs, ts))
    bad_right : {n : ℕ} {cs : List (Compared Expr)} {ts us : List Token} {c : Comparator} {s : Stop} → comparator_at ts ≡ Some (c, us) → OperandAt n us (Err s) → Comparisons n cs ts (Err s)
    more_compared : {n : ℕ} {cs : List (Compared Expr)} {ts us vs : List Token} {c : Comparator} {a : Operand Expr} {o : Read (List (Compared Expr))} → comparator_at ts ≡ Some (c, us) → OperandAt n us (Ok (a, vs)) → Comparisons n (cs ++ compared c a ∷ []) vs o → Comparisons n cs ts o

  -- `!` and the whole chain behind it
  pub data OperandAt : ℕ → List Token → Read (Operand Expr) → Type 0 where
    negated : {n : ℕ} {ts : List Token} {o : Read (Chain Expr)} → ChainAt n (negations_at ts).1 o → OperandAt n ts (made (operand (negations_at ts).0) o)

  pub data ChainAt : ℕ → List Token → Read (Chain Expr) → Type 0 where
    bad_start : {n : ℕ} {ts : List Token} {s : Stop} → First n ts (Err s) → ChainAt n ts (Err s)
    started : {n : ℕ} {ts us : List Token} {k : Link} {o : Read (Chain Expr)} → First n ts (Ok (k, us)) → Links n (linked empty_chain k) us o → ChainAt n ts o

  -- what is still to come behind this front of a chain
  pub data Links : ℕ → Chain Expr → List Token → Read (Chain Expr) → Type 0 where
    no_link : {n : ℕ} {c : Chain Expr} {ts : List Token} → LinkAt n ts (Ok None) → Links n c ts (Ok (c, ts))
    bad_link : {n : ℕ} {c : Chain Expr} {ts : List Token} {s : Stop} → LinkAt n ts (Err s) → Links n c ts (Err s)
    more_links : {n : ℕ} {c : Chain Expr} {ts us : List Token} {k : Link} {o : Read (Chain Expr)} → LinkAt n ts (Ok (Some (k, us))) → Links n (linked c k) us o → Links n c ts o

  -- a dot and a part, or what stands in brackets; or the chain ends
  pub data LinkAt : ℕ → List Token → Linking → Type 0 where
    dot : {n : ℕ} {ts us : List Token} {o : Read (Step Expr)} → behind mark.Dot ts ≡ Some us → Part n us o → LinkAt n ts (linking link.Step o)
    index : {n : ℕ} {ts us : List Token} → behind mark.OpenBracket ts ≡ Some us → LinkAt n ts (linking link.Step (index_in n us))
    filter : {n : ℕ} {ts us : List Token} {o : Read Expr} → behind mark.OpenFilter ts ≡ Some us → Enclosed mark.CloseBracket n us o → LinkAt n ts (linking (λ e. link.Step (step.FilterProjection e)) o)
    flatten : {n : ℕ} {ts us : List Token} → behind mark.Flatten ts ≡ Some us → LinkAt n ts (linking (λ k. k) (flatten_in n us))
    chain_ends : {n : ℕ} {ts : List Token} → behind mark.Dot ts ≡ None → behind mark.OpenBracket ts ≡ None → behind mark.OpenFilter ts ≡ None → behind mark.Flatten ts ≡ None → LinkAt n ts (Ok None)

  -- what a chain begins with
  pub data First : ℕ → List Token → Read Link → Type 0 where
    group : {n : ℕ} {ts us : List Token} {o : Read Expr} → behind mark.OpenGroup ts ≡ Some us → Enclosed mark.CloseGroup n us o → First n ts (made (λ e. link.Step (step.Group e)) o)
    first_filter : {n : ℕ} {ts us : List Token} {o : Read Expr} → behind mark.OpenFilter ts ≡ Some us → Enclosed mark.CloseBracket n us o → First n ts (made (λ e. link.Step (step.FilterProjection e)) o)
    first_index : {n : ℕ} {ts us : List Token} → behind_index ts ≡ Some us → First n ts (made link.Step (index_in n us))
    first_flatten : {n : ℕ} {ts us : List Token} → behind mark.Flatten ts ≡ Some us → First n ts (flatten_in n us)
    current : {n : ℕ} {ts us : List Token} → behind mark.Current ts ≡ Some us → First n ts (Ok (link.Step step.Current, us))
    literal : {n : ℕ} {ts us : List Token} {d : Doc} → literal_at ts ≡ Some (d, us) → First n ts (Ok (link.Step (step.Literal d), us))
    part : {n : ℕ} {ts : List Token} {o : Read (Step Expr)} → behind mark.OpenGroup ts ≡ None → behind mark.OpenFilter ts ≡ None → behind_index ts ≡ None → behind mark.Flatten ts ≡ None → behind mark.Current ts ≡ None → literal_at ts ≡ None → Part n ts o → First n ts (made link.Step o)

  -- what may stand behind a dot, and in front of a chain too
  pub data Part : ℕ → List Token → Read (Step Expr) → Type 0 where
    values : {n : ℕ} {ts us : List Token} → behind mark.Star ts ≡ Some us → Part n ts (Ok (step.Values, us))
    list : {n : ℕ} {ts us : List Token} {o : Read (List Expr)} → behind mark.OpenBracket ts ≡ Some us → Items n us o → Part n ts (made step.List o)
    hash : {n : ℕ} {ts us : List Token} {o : Read (List (Pair Expr))} → behind mark.OpenBrace ts ≡ Some us → Members n us o → Part n ts (made step.Hash o)
    name : {n : ℕ} {t : List ℕ} {ts us : List Token} {o : Read (Step Expr)} → name_at ts ≡ Some (t, us) → Named n t us o → Part n ts o
    quoted : {n : ℕ} {t : List ℕ} {ts us : List Token} → quoted_at ts ≡ Some (t, us) → Part n ts (Ok (step.Field t, us))
    nothing : {n : ℕ} {ts : List Token} → behind mark.Star ts ≡ None → behind mark.OpenBracket ts ≡ None → behind mark.OpenBrace ts ≡ None → name_at ts ≡ None → quoted_at ts ≡ None → Part n ts (Err (stop.Syntax (length ts)))

  -- behind a name: a call where `(` stands there, else the name is a field's
  pub data Named : ℕ → List ℕ → List Token → Read (Step Expr) → Type 0 where
    field : {n : ℕ} {t : List ℕ} {ts : List Token} → behind mark.OpenGroup ts ≡ None → Named n t ts (Ok (step.Field t, ts))
    unknown : {n : ℕ} {t : List ℕ} {ts us : List Token} → behind mark.OpenGroup ts ≡ Some us → function_named t ≡ None → Named n t ts (Err (stop.UnknownFunction (length ts + 1)))
    deep_call : {n : ℕ} {t : List ℕ} {f : Function} {ts us : List Token} → behind mark.OpenGroup ts ≡ Some us → function_named t ≡ Some f → 100 ≤ n → Named n t ts (Err (stop.Syntax (length ts)))
    call : {n : ℕ} {t : List ℕ} {f : Function} {ts us : List Token} {o : Read (List (Argument Expr))} → behind mark.OpenGroup ts ≡ Some us → function_named t ≡ Some f → n < 100 → Arguments (n + 1) us o → Named n t ts (counted f (length ts + 1) o)

  -- an expression behind an opening mark, up to this mark
  pub data Enclosed : Mark → ℕ → List Token → Read Expr → Type 0 where
    deep_bracket : {m : Mark} {n : ℕ} {ts : List Token} → 100 ≤ n → Enclosed m n ts (Err (stop.Syntax (length ts + 1)))
    enclosed : {m : Mark} {n : ℕ} {ts : List Token} {o : Read Expr} → n < 100 → Joined level.Pipe (n + 1) ts o → Enclosed m n ts (o >>= (λ x. closed m x.0 x.1))

  -- the expressions of a list, behind its opening bracket
  pub data Items : ℕ → List Token → Read (List Expr) → Type 0 where
    deep_list : {n : ℕ} {ts : List Token} → 100 ≤ n → Items n ts (Err (stop.Syntax (length ts + 1)))
    items : {n : ℕ} {ts : List Token} {o : Read (List Expr)} → n < 100 → MoreItems (n + 1) [] ts o → Items n ts o

  -- those that are still to come behind these: each is followed by the closing bracket or a comma
  pub data MoreItems : ℕ → List Expr → List Token → Read (List Expr) → Type 0 where
    bad_item : {n : ℕ} {es : List Expr} {ts : List Token} {s : Stop} → Joined level.Pipe n ts (Err s) → MoreItems n es ts (Err s)
    last_item : {n : ℕ} {es : List Expr} {ts us rest : List Token} {e : Expr} → Joined level.Pipe n ts (Ok (e, us)) → behind mark.CloseBracket us ≡ Some rest → MoreItems n es ts (Ok (es ++ e ∷ [], rest))
    more_items : {n : ℕ} {es : List Expr} {ts us rest : List Token} {e : Expr} {o : Read (List Expr)} → Joined level.Pipe n ts (Ok (e, us)) → behind mark.CloseBracket us ≡ None → past mark.Comma us ≡ Ok rest → MoreItems n (es ++ e ∷ []) rest o → MoreItems n es ts o
    open_list : {n : ℕ} {es : List Expr} {ts us : List Token} {e : Expr} {s : Stop} → Joined level.Pipe n ts (Ok (e, us)) → behind mark.CloseBracket us ≡ None → past mark.Comma us ≡ Err s → MoreItems n es ts (Err s)

  -- the members of a hash, behind its opening brace
  pub data Members : ℕ → List Token → Read (List (Pair Expr)) → Type 0 where
    deep_hash : {n : ℕ} {ts : List Token} → 100 ≤ n → Members n ts (Err (stop.Syntax (length ts + 1)))
    members : {n : ℕ} {ts : List Token} {o : Read (List (Pair Expr))} → n < 100 → MoreMembers (n + 1) [] ts o → Members n ts o

  -- those that are still to come behind these: each is followed by the closing brace or a comma
  pub data MoreMembers : ℕ → List (Pair Expr) → List Token → Read (List (Pair Expr)) → Type 0 where
    bad_key : {n : ℕ} {ps : List (Pair Expr)} {ts : List Token} {s : Stop} → key_at ts ≡ Err s → MoreMembers n ps ts (Err s)
    bad_member : {n : ℕ} {ps : List (Pair Expr)} {k : List ℕ} {ts us : List Token} {s : Stop} → key_at ts ≡ Ok (k, us) → Joined level.Pipe n us (Err s) → MoreMembers n ps ts (Err s)
    last_member : {n : ℕ} {ps : List (Pair Expr)} {k : List ℕ} {ts us vs rest : List Token} {e : Expr} → key_at ts ≡ Ok (k, us) → Joined level.Pipe n us (Ok (e, vs)) → behind mark.CloseBrace vs ≡ Some rest → MoreMembers n ps ts (Ok (ps ++ member k e ∷ [], rest))
    more_members : {n : ℕ} {ps : List (Pair Expr)} {k : List ℕ} {ts us vs rest : List Token} {e : Expr} {o : Read (List (Pair Expr))} → key_at ts ≡ Ok (k, us) → Joined level.Pipe n us (Ok (e, vs)) → behind mark.CloseBrace vs ≡ None → past mark.Comma vs ≡ Ok rest → MoreMembers n (ps ++ member k e ∷ []) rest o → MoreMembers n ps ts o
    open_hash : {n : ℕ} {ps : List (Pair Expr)} {k : List ℕ} {ts us vs : List Token} {e : Expr} {s : Stop} → key_at ts ≡ Ok (k, us) → Joined level.Pipe n us (Ok (e, vs)) → behind mark.CloseBrace vs ≡ None → past mark.Comma vs ≡ Err s → MoreMembers n ps ts (Err s)

  -- the arguments of a call, behind `(`
  pub data Arguments : ℕ → List Token → Read (List (Argument Expr)) → Type 0 where
    no_arguments : {n : ℕ} {ts rest : List Token} → behind mark.CloseGroup ts ≡ Some rest → Arguments n ts (Ok ([], rest))
    arguments : {n : ℕ} {ts : List Token} {o : Read (List (Argument Expr))} → behind mark.CloseGroup ts ≡ None → MoreArguments n [] ts o → Arguments n ts o

  -- those that are still to come behind these: each is followed by `)` or a comma
  pub data MoreArguments : ℕ → List (Argument Expr) → List Token → Read (List (Argument Expr)) → Type 0 where
    bad_argument : {n : ℕ} {args : List (Argument Expr)} {ts : List Token} {s : Stop} → ArgumentAt n ts (Err s) → MoreArguments n args ts (Err s)
    last_argument : {n : ℕ} {args : List (Argument Expr)} {ts us rest : List Token} {a : Argument Expr} → ArgumentAt n ts (Ok (a, us)) → behind mark.CloseGroup us ≡ Some rest → MoreArguments n args ts (Ok (args ++ a ∷ [], rest))
    more_arguments : {n : ℕ} {args : List (Argument Expr)} {ts us rest : List Token} {a : Argument Expr} {o : Read (List (Argument Expr))} → ArgumentAt n ts (Ok (a, us)) → behind mark.CloseGroup us ≡ None → past mark.Comma us ≡ Ok rest → MoreArguments n (args ++ a ∷ []) rest o → MoreArguments n args ts o
    open_call : {n : ℕ} {args : List (Argument Expr)} {ts us : List Token} {a : Argument Expr} {s : Stop} → ArgumentAt n ts (Ok (a, us)) → behind mark.CloseGroup us ≡ None → past mark.Comma us ≡ Err s → MoreArguments n args ts (Err s)

  -- an expression, or an expref `&` to one
  pub data ArgumentAt : ℕ → List Token → Read (Argument Expr) → Type 0 where
    expref : {n : ℕ} {ts us : List Token} {o : Read Expr} → behind mark.Expref ts ≡ Some us → Joined level.Pipe n us o → ArgumentAt n ts (made argument.Expref o)
    value : {n : ℕ} {ts : List Token} {o : Read Expr} → behind mark.Expref ts ≡ None → Joined level.Pipe n ts o → ArgumentAt n ts (made argument.Value o)
