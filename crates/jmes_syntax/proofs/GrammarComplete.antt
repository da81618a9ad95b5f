-- What is in the grammar is read from the left, where what stands behind it goes on with nothing.
use Rattle.std.proofs.Common.{◌≡◌, ◌==◌, ℕ, ◌+◌, ◌<◌, Bool, true, false, if◌then◌else◌, List, [], ◌∷◌, ◌++◌, length, Option, Some, None, Ok, Err, refl, sym, ap, subst, ◌∙◌, append_assoc, append-nil, arith}
use Rattle.std.proofs.lemmas.Bool.{ne_eqb, lt-ltb}
use Rattle.std.specs.Prelude.{is_some}
use Rattle.texts.specs.declared.pairs.Pair.{Pair}
use Rattle.jmes_syntax.specs.declared.chains.Link.{Link}
use Rattle.jmes_syntax.specs.declared.chains.Link.TheVariants as link
use Rattle.jmes_syntax.specs.declared.expr.Argument.{Argument}
use Rattle.jmes_syntax.specs.declared.expr.Chain.{Chain}
use Rattle.jmes_syntax.specs.declared.expr.Comparator.{Comparator}
use Rattle.jmes_syntax.specs.declared.expr.Compared.{Compared}
use Rattle.jmes_syntax.specs.declared.expr.Expr.{Expr}
use Rattle.jmes_syntax.specs.declared.expr.Operand.{Operand}
use Rattle.jmes_syntax.specs.declared.expr.Step.{Step}
use Rattle.jmes_syntax.specs.declared.expr.Step.TheVariants as step
use Rattle.jmes_syntax.specs.declared.function.Function.{Function}
use Rattle.jmes_syntax.specs.declared.reader.Level.{Level}
use Rattle.jmes_syntax.specs.declared.reader.Level.TheVariants as level
use Rattle.jmes_syntax.specs.declared.stop.Stop.TheVariants.{Syntax, Arity}
use Rattle.jmes_syntax.specs.declared.token.Mark.{Mark}
use Rattle.jmes_syntax.specs.declared.token.Mark.TheVariants as mark
use Rattle.jmes_syntax.specs.declared.token.Token.{Token}
use Rattle.jmes_syntax.specs.declared.token.Token.TheVariants as token
use Rattle.jmes_syntax.specs.declared.whole.Whole.{Whole}
use Rattle.jmes_syntax.specs.Brackets.{slice, step_at, index_at, star_closes, begins_index, behind_index}
use Rattle.jmes_syntax.specs.Chains.{linked, empty_chain, with_links}
use Rattle.jmes_syntax.specs.Functions.{name_of, arity_of}
use Rattle.jmes_syntax.specs.Grammar.{BeginsWithElements}
use Rattle.jmes_syntax.specs.Grammar as g
use Rattle.jmes_syntax.specs.Scan.{comparator_at, negations_at, counted, key_at, opened, index_in, linking, Joined, Side, Sides, Comparison, Comparisons, OperandAt, ChainAt, Links, LinkAt, First, Part, Named, Enclosed, Items, MoreItems, Members, MoreMembers, Arguments, MoreArguments, ArgumentAt}
use Rattle.jmes_syntax.specs.Reading.{Read, made, followed}
use Rattle.jmes_syntax.specs.Tokens.{same_mark, behind, literal_at}
use Rattle.jmes_syntax.specs.Trees.{mark_of, comparator_of, takes, compared, operand}
use Rattle.jmes_syntax.proofs.Fronts.{same-mark}
use Rattle.jmes_syntax.proofs.GrammarSound.{behind-is}
use Rattle.jmes_syntax.proofs.NamedFunctions.{found_by_name}

-- Where an expression ends.

-- how tightly a mark binds what stands in front of it; one that goes on with no expression binds nothing
abbrev tightness : Mark → ℕ
tightness mark.Pipe = 1
tightness mark.Or = 2
tightness mark.And = 3
tightness mark.Equal = 4
tightness mark.NotEqual = 4
tightness mark.Less = 4
tightness mark.LessOrEqual = 4
tightness mark.Greater = 4
tightness mark.GreaterOrEqual = 4
tightness mark.Dot = 5
tightness mark.OpenBracket = 5
tightness mark.OpenFilter = 5
tightness mark.Flatten = 5
tightness mark.OpenGroup = 5
tightness others = 0

abbrev binding : List Token → ℕ
binding (token.Mark m ∷ ts) = tightness m
binding others = 0

-- what is so tight ends in front of these tokens
abbrev EndsAt : ℕ → List Token → Type 0
EndsAt tight ts = binding ts < tight

abbrev level_of : Level → ℕ
level_of l = tightness (mark_of l)

ends-behind : (m : Mark) (ts : List Token) → EndsAt (tightness m) ts → behind m ts ≡ None
ends-behind m [] ends = refl
ends-behind m (token.Mark k ∷ ts) ends =
    elim (same_mark k m) as (λ v. same_mark k m ≡ v → (if v then Some ts else None) ≡ None)
    [ true ↦ (λ e. let less : tightness m < tightness m = subst (λ c. tightness c < tightness m) (same-mark k m e) ends in absurd (omega (arith, less))) | false ↦ (λ e. refl) ] refl
ends-behind m (token.Name t ∷ ts) ends = refl
ends-behind m (token.Quoted t ∷ ts) ends = refl
ends-behind m (token.Number k ∷ ts) ends = refl
ends-behind m (token.Literal d ∷ ts) ends = refl

no_comparator-of : (m : Mark) → tightness m < 4 → comparator_of m ≡ None
no_comparator-of mark.Equal less = absurd (omega (arith, less))
no_comparator-of mark.NotEqual less = absurd (omega (arith, less))
no_comparator-of mark.Less less = absurd (omega (arith, less))
no_comparator-of mark.LessOrEqual less = absurd (omega (arith, less))
no_comparator-of mark.Greater less = absurd (omega (arith, less))
no_comparator-of mark.GreaterOrEqual less = absurd (omega (arith, less))
no_comparator-of others less = refl

ends-comparator : (ts : List Token) → EndsAt 4 ts → comparator_at ts ≡ None
ends-comparator [] ends = refl
ends-comparator (token.Mark m ∷ ts) ends = ap (λ o. followed o ts) (no_comparator-of m ends)
ends-comparator (token.Name t ∷ ts) ends = refl
ends-comparator (token.Quoted t ∷ ts) ends = refl
ends-comparator (token.Number k ∷ ts) ends = refl
ends-comparator (token.Literal d ∷ ts) ends = refl

-- What an expression begins with.

-- an expression may begin with these marks
abbrev begins_with : Mark → Bool
begins_with mark.Star = true
begins_with mark.Current = true
begins_with mark.Not = true
begins_with mark.OpenGroup = true
begins_with mark.OpenBracket = true
begins_with mark.OpenBrace = true
begins_with mark.Flatten = true
begins_with mark.OpenFilter = true
begins_with others = false

abbrev begins : List Token → Bool
begins [] = false
begins (token.Mark m ∷ ts) = begins_with m
begins (token.Number k ∷ ts) = false
begins (t ∷ ts) = true

begins-behind : (m : Mark) (ts : List Token) → begins_with m ≡ false → begins ts ≡ true → behind m ts ≡ None
begins-behind m [] other h = refl
begins-behind m (token.Mark k ∷ ts) other h =
    elim (same_mark k m) as (λ v. same_mark k m ≡ v → (if v then Some ts else None) ≡ None)
    [ true ↦ (λ e. let same : begins_with k ≡ begins_with m = ap begins_with (same-mark k m e) in absurd cc) | false ↦ (λ e. refl) ] refl
begins-behind m (token.Name t ∷ ts) other h = refl
begins-behind m (token.Quoted t ∷ ts) other h = refl
begins-behind m (token.Number k ∷ ts) other h = refl
begins-behind m (token.Literal d ∷ ts) other h = refl

-- a chain begins so, and not with `!`
abbrev StartsChain : List Token → Type 0
StartsChain ts = (begins ts ≡ true) × (negations_at ts ≡ (0, ts))

bracket_begins : {n : ℕ} {ts : List Token} {k : Link} {rest : List Token} → g.BracketSpecifier n ts k rest → StartsChain ts
bracket_begins (g.BracketSpecifier.index less) = (refl, refl)
bracket_begins (g.BracketSpecifier.elements less) = (refl, refl)
bracket_begins (g.BracketSpecifier.slice_expression less s) = (refl, refl)
bracket_begins (g.BracketSpecifier.flatten less) = (refl, refl)
bracket_begins (g.BracketSpecifier.filter less e) = (refl, refl)

part_begins : {n : ℕ} {ts : List Token} {s : Step Expr} {rest : List Token} → g.Part n ts s rest → StartsChain ts
part_begins (g.Part.identifier g.Identifier.unquoted_string) = (refl, refl)
part_begins (g.Part.identifier g.Identifier.quoted_string) = (refl, refl)
part_begins (g.Part.multi_select_list less e es) = (refl, refl)
part_begins (g.Part.multi_select_hash less p ps) = (refl, refl)
part_begins (g.Part.function_expression less count args) = (refl, refl)
part_begins g.Part.values = (refl, refl)

first_begins : {n : ℕ} {ts : List Token} {k : Link} {rest : List Token} → g.First n ts k rest → StartsChain ts
first_begins (g.First.paren_expression less e) = (refl, refl)
first_begins (g.First.bracket_specifier b) = bracket_begins b
first_begins g.First.current_node = (refl, refl)
first_begins g.First.literal = (refl, refl)
first_begins (g.First.part other p) = part_begins p

chain_begins : {n : ℕ} {ts : List Token} {c : Chain Expr} {rest : List Token} → g.ChainAt n ts c rest → StartsChain ts
chain_begins (g.ChainAt.links first ks) = first_begins first

not_begins : {n : ℕ} {ts : List Token} {a : Operand Expr} {rest : List Token} → g.NotExpression n ts a rest → begins ts ≡ true
not_begins (g.NotExpression.no_not c) = (chain_begins c).0
not_begins (g.NotExpression.one_not a) = refl

comparator_begins : {n : ℕ} {ts : List Token} {e : Expr} {rest : List Token} → g.ComparatorExpression n ts e rest → begins ts ≡ true
comparator_begins (g.ComparatorExpression.comparisons a cs) = not_begins a

mutual
  expression_begins : {l : Level} {n : ℕ} {ts : List Token} {e : Expr} {rest : List Token} → g.ExpressionAt l n ts e rest → begins ts ≡ true
  expression_begins (g.ExpressionAt.sides side more) = side_begins side

  side_begins : {l : Level} {n : ℕ} {ts : List Token} {e : Expr} {rest : List Token} → g.Side l n ts e rest → begins ts ≡ true
  side_begins (g.Side.pipe_side e) = expression_begins e
  side_begins (g.Side.or_side e) = expression_begins e
  side_begins (g.Side.and_side e) = comparator_begins e

-- What stands behind a part ends it.

sides_end : {l : Level} {n : ℕ} {us : List Token} {es : List Expr} {rest : List Token} → g.MoreSides l n us es rest → EndsAt (level_of l) rest → EndsAt (level_of l + 1) us
sides_end g.MoreSides.no_side ends = omega (arith, ends)
sides_end (g.MoreSides.more_sides side more) ends = omega arith

comparator-tight : (m : Mark) (c : Comparator) → comparator_of m ≡ Some c → tightness m < 5
comparator-tight mark.Equal c e = omega arith
comparator-tight mark.NotEqual c e = omega arith
comparator-tight mark.Less c e = omega arith
comparator-tight mark.LessOrEqual c e = omega arith
comparator-tight mark.Greater c e = omega arith
comparator-tight mark.GreaterOrEqual c e = omega arith
comparator-tight others c e = absurd cc

comparisons_end : {n : ℕ} {us : List Token} {cs : List (Compared Expr)} {rest : List Token} → g.Comparisons n us cs rest → EndsAt 4 rest → EndsAt 5 us
comparisons_end g.Comparisons.no_comparison ends = omega (arith, ends)
comparisons_end (g.Comparisons.more_comparisons {m = m} {c = c} e a cs) ends = comparator-tight m c e

links_end : {n : ℕ} {us : List Token} {ks : List Link} {rest : List Token} → g.Links n us ks rest → EndsAt 5 rest → behind mark.OpenGroup us ≡ None
links_end (g.Links.no_link {ts = ts}) ends = ends-behind mark.OpenGroup ts ends
links_end (g.Links.more_links (g.LinkAt.sub_expression p) ks) ends = refl
links_end (g.Links.more_links (g.LinkAt.index_expression (g.BracketSpecifier.index less)) ks) ends = refl
links_end (g.Links.more_links (g.LinkAt.index_expression (g.BracketSpecifier.elements less)) ks) ends = refl
links_end (g.Links.more_links (g.LinkAt.index_expression (g.BracketSpecifier.slice_expression less s)) ks) ends = refl
links_end (g.Links.more_links (g.LinkAt.index_expression (g.BracketSpecifier.flatten less)) ks) ends = refl
links_end (g.Links.more_links (g.LinkAt.index_expression (g.BracketSpecifier.filter less e)) ks) ends = refl

items_end : {n : ℕ} {us : List Token} {es : List Expr} {rest : List Token} → g.MoreItems n us es rest → EndsAt 1 rest → EndsAt 1 us
items_end g.MoreItems.no_item ends = ends
items_end (g.MoreItems.more_items e es) ends = omega arith

keyvals_end : {n : ℕ} {us : List Token} {ps : List (Pair Expr)} {rest : List Token} → g.MoreKeyvals n us ps rest → EndsAt 1 rest → EndsAt 1 us
keyvals_end g.MoreKeyvals.no_keyval ends = ends
keyvals_end (g.MoreKeyvals.more_keyvals p ps) ends = omega arith

args_end : {n : ℕ} {us : List Token} {args : List (Argument Expr)} {rest : List Token} → g.MoreArgs n us args rest → EndsAt 1 rest → EndsAt 1 us
args_end g.MoreArgs.no_arg ends = ends
args_end (g.MoreArgs.more_args a args) ends = omega arith

-- What is read without what stands around it.

level-behind : (l : Level) (ts : List Token) → behind (mark_of l) (token.Mark (mark_of l) ∷ ts) ≡ Some ts
level-behind level.Pipe ts = refl
level-behind level.Or ts = refl
level-behind level.And ts = refl

step-read : (start stop : Option Whole) (by : Whole) (rest : List Token) → 0 < by.magnitude → step_at start stop (token.Number by ∷ token.Mark mark.CloseBracket ∷ rest) ≡ Ok (slice start stop by, rest)
step-read start stop by rest positive =
    let ts = token.Number by ∷ token.Mark mark.CloseBracket ∷ rest in
    let nonzero : by.magnitude == 0 ≡ false = ne_eqb by.magnitude 0 (λ e. absurd (omega arith)) in
    ap (λ v. if v then Err (Syntax (length ts)) else Ok (slice start stop by, rest)) nonzero

slice-read : (ts : List Token) (s : Step Expr) (rest : List Token) → g.SliceExpression ts s → index_at (ts ++ token.Mark mark.CloseBracket ∷ rest) ≡ Ok (s, rest)
slice-read ts s rest (g.SliceExpression.short_slice None None) = refl
slice-read ts s rest (g.SliceExpression.short_slice None (Some j)) = refl
slice-read ts s rest (g.SliceExpression.short_slice (Some i) None) = refl
slice-read ts s rest (g.SliceExpression.short_slice (Some i) (Some j)) = refl
slice-read ts s rest (g.SliceExpression.long_slice None None None h) = refl
slice-read ts s rest (g.SliceExpression.long_slice None (Some j) None h) = refl
slice-read ts s rest (g.SliceExpression.long_slice (Some i) None None h) = refl
slice-read ts s rest (g.SliceExpression.long_slice (Some i) (Some j) None h) = refl
slice-read ts s rest (g.SliceExpression.long_slice None None (Some k) h) = step-read None None k rest h
slice-read ts s rest (g.SliceExpression.long_slice None (Some j) (Some k) h) = step-read None (Some j) k rest h
slice-read ts s rest (g.SliceExpression.long_slice (Some i) None (Some k) h) = step-read (Some i) None k rest h
slice-read ts s rest (g.SliceExpression.long_slice (Some i) (Some j) (Some k) h) = step-read (Some i) (Some j) k rest h

slice-index : (ts : List Token) (s : Step Expr) (rest : List Token) → g.SliceExpression ts s → begins_index (ts ++ token.Mark mark.CloseBracket ∷ rest) ≡ true
slice-index ts s rest (g.SliceExpression.short_slice None stop) = refl
slice-index ts s rest (g.SliceExpression.short_slice (Some i) stop) = refl
slice-index ts s rest (g.SliceExpression.long_slice None stop by h) = refl
slice-index ts s rest (g.SliceExpression.long_slice (Some i) stop by h) = refl

-- an expression behind `[` begins no index, unless it is `*` alone
closes-not : (ts : List Token) (o : Option (List Token)) → behind mark.CloseBracket ts ≡ o → ((rest : List Token) → ts ≡ token.Mark mark.CloseBracket ∷ rest → ⊥) → is_some o ≡ false
closes-not ts None e other = refl
closes-not ts (Some rest) e other = absurd (other rest (behind-is mark.CloseBracket ts rest e))

begins-no_index : (us : List Token) → begins us ≡ true → ((rest : List Token) → us ≡ token.Mark mark.Star ∷ token.Mark mark.CloseBracket ∷ rest → ⊥) → begins_index us ≡ false
begins-no_index [] h other = absurd cc
begins-no_index (token.Mark m ∷ ts) h other =
    elim (same_mark m mark.Star) as (λ v. same_mark m mark.Star ≡ v → star_closes (token.Mark m ∷ ts) (if v then Some ts else None) ≡ false) [
      | true ↦ (λ e. closes-not ts (behind mark.CloseBracket ts) refl (λ rest f. let star = same-mark m mark.Star e in other rest (rw (star, f) refl)))
      | false ↦ (λ e. ap is_some (begins-behind mark.Colon (token.Mark m ∷ ts) refl h))
    ] refl
begins-no_index (token.Name t ∷ ts) h other = refl
begins-no_index (token.Quoted t ∷ ts) h other = refl
begins-no_index (token.Literal d ∷ ts) h other = refl
begins-no_index (token.Number k ∷ ts) h other = absurd cc

part_no_index : {n : ℕ} {ts : List Token} {s : Step Expr} {rest : List Token} → g.Part n ts s rest → (BeginsWithElements ts → ⊥) → behind_index ts ≡ None
part_no_index (g.Part.identifier g.Identifier.unquoted_string) other = refl
part_no_index (g.Part.identifier g.Identifier.quoted_string) other = refl
part_no_index (g.Part.multi_select_list {us = us} less e es) other =
    ap (λ v. if v then Some us else None) (begins-no_index us (expression_begins e) (λ rest f. other (rest, ap (λ vs. token.Mark mark.OpenBracket ∷ vs) f)))
part_no_index (g.Part.multi_select_hash less p ps) other = refl
part_no_index (g.Part.function_expression less count args) other = refl
part_no_index g.Part.values other = refl

-- a part begins with none of what else a chain begins with
abbrev IsPart : List Token → Type 0
IsPart ts = (behind mark.OpenGroup ts ≡ None) × (behind mark.OpenFilter ts ≡ None) × (behind mark.Flatten ts ≡ None) × (behind mark.Current ts ≡ None) × (literal_at ts ≡ None)

part_front : {n : ℕ} {ts : List Token} {s : Step Expr} {rest : List Token} → g.Part n ts s rest → IsPart ts
part_front (g.Part.identifier g.Identifier.unquoted_string) = (refl, refl, refl, refl, refl)
part_front (g.Part.identifier g.Identifier.quoted_string) = (refl, refl, refl, refl, refl)
part_front (g.Part.multi_select_list less e es) = (refl, refl, refl, refl, refl)
part_front (g.Part.multi_select_hash less p ps) = (refl, refl, refl, refl, refl)
part_front (g.Part.function_expression less count args) = (refl, refl, refl, refl, refl)
part_front g.Part.values = (refl, refl, refl, refl, refl)

arg_opens : {n : ℕ} {ts : List Token} {a : Argument Expr} {rest : List Token} → g.FunctionArg n ts a rest → behind mark.CloseGroup ts ≡ None
arg_opens (g.FunctionArg.value {ts = ts} e) = begins-behind mark.CloseGroup ts refl (expression_begins e)
arg_opens (g.FunctionArg.expression_type e) = refl

-- the `!` in front, and the chain behind them
abbrev NotRead : ℕ → List Token → Operand Expr → List Token → Type 0
NotRead n ts a rest = ChainAt n (negations_at ts).1 (Ok (a.chain, rest)) × ((negations_at ts).0 ≡ a.negations)

not-operand : (n : ℕ) (ts : List Token) (a : Operand Expr) (rest : List Token) → NotRead n ts a rest → OperandAt n ts (Ok (a, rest))
not-operand n ts a rest h = subst (λ k. OperandAt n ts (Ok (operand k a.chain, rest))) h.1 (OperandAt.negated h.0)

no_not-read : (n : ℕ) (ts : List Token) (c : Chain Expr) (rest : List Token) → negations_at ts ≡ (0, ts) → ChainAt n ts (Ok (c, rest)) → NotRead n ts (operand 0 c) rest
no_not-read n ts c rest e h = subst (λ x. ChainAt n x.1 (Ok (c, rest)) × (x.0 ≡ 0)) (sym e) (h, refl)

counted-ok : (f : Function) (left : ℕ) (args : List (Argument Expr)) (rest : List Token) → takes (arity_of f) (length args) ≡ true → counted f left (Ok (args, rest)) ≡ Ok (step.Call f args, rest)
counted-ok f left args rest e = ap (λ v. if v then Ok (step.Call f args, rest) else Err (Arity left)) e

-- what is read behind an opening mark, where few brackets are open
opened-inside : {A : Type 0} (n : ℕ) (us : List Token) (o : Read A) → n < 100 → opened n us o ≡ o
opened-inside n us o less = ap (λ v. if v then o else Err (Syntax (length us + 1))) (lt-ltb n 100 less)

index_in-read : (n : ℕ) (us : List Token) (x : Step Expr × List Token) → n < 100 → index_at us ≡ Ok x → index_in n us ≡ Ok x
index_in-read n us x less e = opened-inside n us (index_at us) less ∙ e

index_link : (n : ℕ) (us : List Token) (x : Step Expr × List Token) → n < 100 → index_at us ≡ Ok x → LinkAt n (token.Mark mark.OpenBracket ∷ us) (Ok (Some (link.Step x.0, x.1)))
index_link n us x less e = subst (λ o. LinkAt n (token.Mark mark.OpenBracket ∷ us) (linking link.Step o)) (index_in-read n us x less e) (LinkAt.index {us = us} refl)

index_first : (n : ℕ) (us : List Token) (x : Step Expr × List Token) → n < 100 → begins_index us ≡ true → index_at us ≡ Ok x → First n (token.Mark mark.OpenBracket ∷ us) (Ok (link.Step x.0, x.1))
index_first n us x less begins e =
    subst (λ o. First n (token.Mark mark.OpenBracket ∷ us) (made link.Step o)) (index_in-read n us x less e) (First.first_index {us = us} (ap (λ v. if v then Some us else None) begins))

-- a key, and the value behind its colon
abbrev KeyvalRead : ℕ → List Token → Pair Expr → List Token → Type 0
KeyvalRead n ts p rest = (us : List Token) × (key_at ts ≡ Ok (p.key, us)) × Joined level.Pipe n us (Ok (p.value, rest))

mutual
  expression_complete : {l : Level} {n : ℕ} {ts : List Token} {e : Expr} {rest : List Token} → g.ExpressionAt l n ts e rest → EndsAt (level_of l) rest → Joined l n ts (Ok (e, rest))
  expression_complete (g.ExpressionAt.sides {ts = ts} {e = e} side more) ends = Joined.sides (sides_complete more ends [] e ts (side_complete side (sides_end more ends)))

  side_complete : {l : Level} {n : ℕ} {ts : List Token} {e : Expr} {rest : List Token} → g.Side l n ts e rest → EndsAt (level_of l + 1) rest → Side l n ts (Ok (e, rest))
  side_complete (g.Side.pipe_side e) ends = Side.pipe_side (expression_complete e ends)
  side_complete (g.Side.or_side e) ends = Side.or_side (expression_complete e ends)
  side_complete (g.Side.and_side e) ends = Side.and_side (comparator_complete e ends)

  sides_complete : {l : Level} {n : ℕ} {us : List Token} {es : List Expr} {rest : List Token} → g.MoreSides l n us es rest → EndsAt (level_of l) rest
      → (acc : List Expr) (e : Expr) (ts : List Token) → Side l n ts (Ok (e, us)) → Sides l n acc ts (Ok (acc ++ e ∷ es, rest))
  sides_complete (g.MoreSides.no_side {l = l} {ts = us}) ends acc e ts v = Sides.last_side v (ends-behind (mark_of l) us ends)
  sides_complete (g.MoreSides.more_sides {l = l} {n = n} {us = us} {rest = rest} {e = d} {es = es} side more) ends acc e ts v =
      subst (λ all. Sides l n acc ts (Ok (all, rest))) (append_assoc acc (e ∷ []) (d ∷ es))
      (Sides.more_sides v (level-behind l us) (sides_complete more ends (acc ++ e ∷ []) d us (side_complete side (sides_end more ends))))

  comparator_complete : {n : ℕ} {ts : List Token} {e : Expr} {rest : List Token} → g.ComparatorExpression n ts e rest → EndsAt 4 rest → Comparison n ts (Ok (e, rest))
  comparator_complete (g.ComparatorExpression.comparisons {n = n} {ts = ts} {us = us} {a = a} first more) ends =
      Comparison.compared_with (not-operand n ts a us (not_complete first (comparisons_end more ends))) (comparisons_complete more ends [])

  comparisons_complete : {n : ℕ} {us : List Token} {cs : List (Compared Expr)} {rest : List Token} → g.Comparisons n us cs rest → EndsAt 4 rest → (acc : List (Compared Expr)) → Comparisons n acc us (Ok (acc ++ cs, rest))
  comparisons_complete (g.Comparisons.no_comparison {n = n} {ts = ts}) ends acc =
      subst (λ all. Comparisons n acc ts (Ok (all, ts))) (sym (append-nil acc)) (Comparisons.no_comparator (ends-comparator ts ends))
  comparisons_complete (g.Comparisons.more_comparisons {n = n} {us = us} {vs = vs} {rest = rest} {m = m} {c = c} {a = a} {cs = cs} e first more) ends acc =
      subst (λ all. Comparisons n acc (token.Mark m ∷ us) (Ok (all, rest))) (append_assoc acc (compared c a ∷ []) cs)
      (Comparisons.more_compared (ap (λ o. followed o us) e) (not-operand n us a vs (not_complete first (comparisons_end more ends))) (comparisons_complete more ends (acc ++ compared c a ∷ [])))

  not_complete : {n : ℕ} {ts : List Token} {a : Operand Expr} {rest : List Token} → g.NotExpression n ts a rest → EndsAt 5 rest → NotRead n ts a rest
  not_complete (g.NotExpression.no_not {n = n} {ts = ts} {rest = rest} {c = c} chain) ends = no_not-read n ts c rest (chain_begins chain).1 (chain_complete chain ends)
  not_complete (g.NotExpression.one_not a) ends = let h = not_complete a ends in (h.0, ap (λ k. k + 1) h.1)

  chain_complete : {n : ℕ} {ts : List Token} {c : Chain Expr} {rest : List Token} → g.ChainAt n ts c rest → EndsAt 5 rest → ChainAt n ts (Ok (c, rest))
  chain_complete (g.ChainAt.links {k = k} first more) ends = ChainAt.started (first_complete first (links_end more ends)) (links_complete more ends (linked empty_chain k))

  links_complete : {n : ℕ} {us : List Token} {ks : List Link} {rest : List Token} → g.Links n us ks rest → EndsAt 5 rest → (c : Chain Expr) → Links n c us (Ok (with_links c ks, rest))
  links_complete (g.Links.no_link {ts = ts}) ends c =
      Links.no_link (LinkAt.chain_ends (ends-behind mark.Dot ts ends) (ends-behind mark.OpenBracket ts ends) (ends-behind mark.OpenFilter ts ends) (ends-behind mark.Flatten ts ends))
  links_complete (g.Links.more_links {k = k} at more) ends c = Links.more_links (link_complete at (links_end more ends)) (links_complete more ends (linked c k))

  link_complete : {n : ℕ} {ts : List Token} {k : Link} {rest : List Token} → g.LinkAt n ts k rest → behind mark.OpenGroup rest ≡ None → LinkAt n ts (Ok (Some (k, rest)))
  link_complete (g.LinkAt.sub_expression p) apart = LinkAt.dot refl (part_complete p apart)
  link_complete (g.LinkAt.index_expression b) apart = bracket_link b

  bracket_link : {n : ℕ} {ts : List Token} {k : Link} {rest : List Token} → g.BracketSpecifier n ts k rest → LinkAt n ts (Ok (Some (k, rest)))
  bracket_link (g.BracketSpecifier.index {n = n} {rest = rest} {i = i} less) = index_link n (token.Number i ∷ token.Mark mark.CloseBracket ∷ rest) (step.Index i, rest) less refl
  bracket_link (g.BracketSpecifier.elements {n = n} {rest = rest} less) = index_link n (token.Mark mark.Star ∷ token.Mark mark.CloseBracket ∷ rest) (step.Elements, rest) less refl
  bracket_link (g.BracketSpecifier.slice_expression {n = n} {ts = ts} {rest = rest} {s = s} less h) = index_link n (ts ++ token.Mark mark.CloseBracket ∷ rest) (s, rest) less (slice-read ts s rest h)
  bracket_link (g.BracketSpecifier.flatten {n = n} {rest = rest} less) =
      subst (λ o. LinkAt n (token.Mark mark.Flatten ∷ rest) (linking (λ k. k) o)) (opened-inside n rest (Ok (link.Flatten, rest)) less) (LinkAt.flatten {us = rest} refl)
  bracket_link (g.BracketSpecifier.filter less e) = LinkAt.filter refl (Enclosed.enclosed less (expression_complete e (omega arith)))

  bracket_first : {n : ℕ} {ts : List Token} {k : Link} {rest : List Token} → g.BracketSpecifier n ts k rest → First n ts (Ok (k, rest))
  bracket_first (g.BracketSpecifier.index {n = n} {rest = rest} {i = i} less) = index_first n (token.Number i ∷ token.Mark mark.CloseBracket ∷ rest) (step.Index i, rest) less refl refl
  bracket_first (g.BracketSpecifier.elements {n = n} {rest = rest} less) = index_first n (token.Mark mark.Star ∷ token.Mark mark.CloseBracket ∷ rest) (step.Elements, rest) less refl refl
  bracket_first (g.BracketSpecifier.slice_expression {n = n} {ts = ts} {rest = rest} {s = s} less h) =
      index_first n (ts ++ token.Mark mark.CloseBracket ∷ rest) (s, rest) less (slice-index ts s rest h) (slice-read ts s rest h)
  bracket_first (g.BracketSpecifier.flatten {n = n} {rest = rest} less) =
      subst (First n (token.Mark mark.Flatten ∷ rest)) (opened-inside n rest (Ok (link.Flatten, rest)) less) (First.first_flatten {us = rest} refl)
  bracket_first (g.BracketSpecifier.filter less e) = First.first_filter refl (Enclosed.enclosed less (expression_complete e (omega arith)))

  first_complete : {n : ℕ} {ts : List Token} {k : Link} {rest : List Token} → g.First n ts k rest → behind mark.OpenGroup rest ≡ None → First n ts (Ok (k, rest))
  first_complete (g.First.paren_expression less e) apart = First.group refl (Enclosed.enclosed less (expression_complete e (omega arith)))
  first_complete (g.First.bracket_specifier b) apart = bracket_first b
  first_complete g.First.current_node apart = First.current refl
  first_complete g.First.literal apart = First.literal refl
  first_complete (g.First.part other p) apart = let f = part_front p in First.part f.0 f.1 (part_no_index p other) f.2 f.3 f.4 (part_complete p apart)

  part_complete : {n : ℕ} {ts : List Token} {s : Step Expr} {rest : List Token} → g.Part n ts s rest → behind mark.OpenGroup rest ≡ None → Part n ts (Ok (s, rest))
  part_complete (g.Part.identifier g.Identifier.unquoted_string) apart = Part.name refl (Named.field apart)
  part_complete (g.Part.identifier g.Identifier.quoted_string) apart = Part.quoted refl
  part_complete (g.Part.multi_select_list {us = us} {rest = rest} {e = e} less first more) apart =
      Part.list refl (Items.items less (items_complete more rest refl (omega arith) [] e us (expression_complete first (items_end more (omega arith)))))
  part_complete (g.Part.multi_select_hash {us = us} {rest = rest} {p = p} less first more) apart =
      Part.hash refl (Members.members less (keyvals_complete more rest refl (omega arith) [] p us (keyval_complete first (keyvals_end more (omega arith)))))
  part_complete (g.Part.function_expression {n = n} {us = us} {rest = rest} {f = f} {args = args} less count all) apart =
      let ts = token.Mark mark.OpenGroup ∷ us in
      subst (Part n (token.Name (name_of f) ∷ ts)) (counted-ok f (length ts + 1) args rest count) (Part.name refl (Named.call refl (found_by_name f) less (args_complete all)))
  part_complete g.Part.values apart = Part.values refl

  items_complete : {n : ℕ} {us : List Token} {es : List Expr} {close : List Token} → g.MoreItems n us es close → (rest : List Token) → behind mark.CloseBracket close ≡ Some rest → EndsAt 1 close
      → (acc : List Expr) (e : Expr) (ts : List Token) → Joined level.Pipe n ts (Ok (e, us)) → MoreItems n acc ts (Ok (acc ++ e ∷ es, rest))
  items_complete g.MoreItems.no_item rest closes ends acc e ts v = MoreItems.last_item v closes
  items_complete (g.MoreItems.more_items {n = n} {us = us} {e = d} {es = es} next more) rest closes ends acc e ts v =
      subst (λ all. MoreItems n acc ts (Ok (all, rest))) (append_assoc acc (e ∷ []) (d ∷ es))
      (MoreItems.more_items v refl refl (items_complete more rest closes ends (acc ++ e ∷ []) d us (expression_complete next (items_end more ends))))

  keyval_complete : {n : ℕ} {ts : List Token} {p : Pair Expr} {rest : List Token} → g.KeyvalExpr n ts p rest → EndsAt 1 rest → KeyvalRead n ts p rest
  keyval_complete (g.KeyvalExpr.keyval {us = us} g.Identifier.unquoted_string e) ends = (us, refl, expression_complete e ends)
  keyval_complete (g.KeyvalExpr.keyval {us = us} g.Identifier.quoted_string e) ends = (us, refl, expression_complete e ends)

  keyvals_complete : {n : ℕ} {us : List Token} {ps : List (Pair Expr)} {close : List Token} → g.MoreKeyvals n us ps close → (rest : List Token) → behind mark.CloseBrace close ≡ Some rest → EndsAt 1 close
      → (acc : List (Pair Expr)) (p : Pair Expr) (ts : List Token) → KeyvalRead n ts p us → MoreMembers n acc ts (Ok (acc ++ p ∷ ps, rest))
  keyvals_complete g.MoreKeyvals.no_keyval rest closes ends acc p ts v = MoreMembers.last_member v.1 v.2 closes
  keyvals_complete (g.MoreKeyvals.more_keyvals {n = n} {us = us} {p = q} {ps = ps} next more) rest closes ends acc p ts v =
      subst (λ all. MoreMembers n acc ts (Ok (all, rest))) (append_assoc acc (p ∷ []) (q ∷ ps))
      (MoreMembers.more_members v.1 v.2 refl refl (keyvals_complete more rest closes ends (acc ++ p ∷ []) q us (keyval_complete next (keyvals_end more ends))))

  args_complete : {n : ℕ} {ts : List Token} {args : List (Argument Expr)} {rest : List Token} → g.Args n ts args rest → Arguments n ts (Ok (args, rest))
  args_complete g.Args.no_args = Arguments.no_arguments refl
  args_complete (g.Args.one_or_more_args {ts = ts} {rest = rest} {a = a} first more) =
      Arguments.arguments (arg_opens first) (more_args_complete more rest refl (omega arith) [] a ts (arg_complete first (args_end more (omega arith))))

  more_args_complete : {n : ℕ} {us : List Token} {args : List (Argument Expr)} {close : List Token} → g.MoreArgs n us args close → (rest : List Token) → behind mark.CloseGroup close ≡ Some rest → EndsAt 1 close
      → (acc : List (Argument Expr)) (a : Argument Expr) (ts : List Token) → ArgumentAt n ts (Ok (a, us)) → MoreArguments n acc ts (Ok (acc ++ a ∷ args, rest))
  more_args_complete g.MoreArgs.no_arg rest closes ends acc a ts v = MoreArguments.last_argument v closes
  more_args_complete (g.MoreArgs.more_args {n = n} {us = us} {a = b} {args = args} next more) rest closes ends acc a ts v =
      subst (λ all. MoreArguments n acc ts (Ok (all, rest))) (append_assoc acc (a ∷ []) (b ∷ args))
      (MoreArguments.more_arguments v refl refl (more_args_complete more rest closes ends (acc ++ a ∷ []) b us (arg_complete next (args_end more ends))))

  arg_complete : {n : ℕ} {ts : List Token} {a : Argument Expr} {rest : List Token} → g.FunctionArg n ts a rest → EndsAt 1 rest → ArgumentAt n ts (Ok (a, rest))
  arg_complete (g.FunctionArg.value {ts = ts} e) ends = ArgumentAt.value (begins-behind mark.Expref ts refl (expression_begins e)) (expression_complete e ends)
  arg_complete (g.FunctionArg.expression_type e) ends = ArgumentAt.expref refl (expression_complete e ends)

pub tokens_complete : (ts : List Token) (e : Expr) → g.ExpressionAt level.Pipe 0 ts e [] → Joined level.Pipe 0 ts (Ok (e, []))
tokens_complete ts e h = expression_complete h (omega arith)
