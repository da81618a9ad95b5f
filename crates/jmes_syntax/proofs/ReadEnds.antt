-- Reading tokens from the left ends with a tree or a fault, whatever they are.
use Rattle.std.specs.Prelude.{nat_lt}
use Rattle.std.proofs.Common.{◌≡◌, ◌==◌, ℕ, zero, suc, ◌+◌, ◌<◌, ◌≤◌, Bool, true, false, if◌then◌else◌, inl, inr, List, [], ◌∷◌, ◌++◌, length, Option, None, Some, Result, Ok, Err, subst, arith}
use Rattle.std.proofs.lemmas.Bool.{cases_lt}
use Rattle.texts.specs.declared.pairs.Pair.{Pair}
use Rattle.jmes_syntax.specs.declared.chains.Link.{Link}
use Rattle.jmes_syntax.specs.declared.chains.Link.TheVariants as link
use Rattle.jmes_syntax.specs.declared.expr.Argument.{Argument}
use Rattle.jmes_syntax.specs.declared.expr.Argument.TheVariants as argument
use Rattle.jmes_syntax.specs.declared.expr.Chain.{Chain}
use Rattle.jmes_syntax.specs.declared.expr.Comparator.{Comparator}
use Rattle.jmes_syntax.specs.declared.expr.Compared.{Compared}
use Rattle.jmes_syntax.specs.declared.expr.Expr.{Expr}
use Rattle.jmes_syntax.specs.declared.expr.Operand.{Operand}
use Rattle.jmes_syntax.specs.declared.expr.Step.TheVariants as step
use Rattle.jmes_syntax.specs.declared.function.Function.{Function}
use Rattle.jmes_syntax.specs.declared.reader.Level.{Level}
use Rattle.jmes_syntax.specs.declared.reader.Level.TheVariants as level
use Rattle.jmes_syntax.specs.declared.stop.Stop.{Stop}
use Rattle.jmes_syntax.specs.declared.stop.Stop.TheVariants as stop
use Rattle.jmes_syntax.specs.declared.token.Mark.{Mark}
use Rattle.jmes_syntax.specs.declared.token.Mark.TheVariants as mark
use Rattle.jmes_syntax.specs.declared.token.Token.{Token}
use Rattle.jmes_syntax.specs.declared.whole.Whole.{Whole}
use Rattle.jmes_syntax.specs.Brackets.{closed, step_of, slice, step_at, stop_at, only_number, start_at, star_at, index_at, behind_index}
use Rattle.jmes_syntax.specs.Chains.{linked, empty_chain}
use Rattle.jmes_syntax.specs.Functions.{arity_of, function_named}
use Rattle.jmes_syntax.specs.Reading.{Read, made}
use Rattle.texts.specs.Calls.{◌>>=◌}
use Rattle.jmes_syntax.specs.Scan.{comparator_at, negations_at, counted, any_name_at, before_colon, key_at, opened, index_in, flatten_in, Linking, linking, Joined, Side, Sides, Comparison, Comparisons, OperandAt, ChainAt, Links, LinkAt, First, Part, Named, Enclosed, Items, MoreItems, Members, MoreMembers, Arguments, MoreArguments, ArgumentAt}
use Rattle.jmes_syntax.specs.Tokens.{behind, or_syntax, past, number_at, name_at, quoted_at, literal_at}
use Rattle.jmes_syntax.specs.Trees.{mark_of, one_of, comparison, takes, member, compared, operand}
use Rattle.jmes_syntax.proofs.Choices.{of_option, of_result}
use Rattle.jmes_syntax.proofs.Lengths.{behind-lt, past-lt, key_at-le, shorter-at, name_at-shorter, comparator_at-shorter, negations_at-le, joined-within, side-within, operand-within, first-within, link-within, argument-within}

-- A reason that is no want of memory.

abbrev pub IsReal : Stop → Type 0
IsReal stop.OutOfMemory = ⊥
IsReal others = Unit {0}

abbrev pub Real : {A : Type 0} → Result A Stop → Type 0
Real (Ok x) = Unit {0}
Real (Err s) = IsReal s

made-real : {A B : Type 0} (f : A → B) (o : Read A) → Real o → Real (made f o)
made-real f (Ok x) h = tt
made-real f (Err s) h = h

linking-real : {A : Type 0} (f : A → Link) (o : Read A) → Real o → Real (linking f o)
linking-real f (Ok x) h = tt
linking-real f (Err s) h = h

or_syntax-real : (ts : List Token) (o : Option (List Token)) → Real (or_syntax ts o)
or_syntax-real ts None = tt
or_syntax-real ts (Some us) = tt

past-real : (m : Mark) (ts : List Token) → Real (past m ts)
past-real m ts = or_syntax-real ts (behind m ts)

pub bind-real : {A B : Type 0} (r : Result A Stop) (f : A → Result B Stop) → Real r → ((x : A) → Real (f x)) → Real (r >>= f)
bind-real (Ok x) f h g = g x
bind-real (Err s) f h g = h

closed-real : {A : Type 0} (m : Mark) (x : A) (ts : List Token) → Real (closed m x ts)
closed-real m x ts = bind-real (past m ts) (λ us. Ok (x, us)) (past-real m ts) (λ us. tt)

either-real : {A : Type 0} (b : Bool) (x y : Result A Stop) → Real x → Real y → Real (if b then x else y)
either-real true x y h k = h
either-real false x y h k = k

opened-real : {A : Type 0} (n : ℕ) (ts : List Token) (o : Read A) → Real o → Real (opened n ts o)
opened-real n ts o h = either-real (nat_lt n 100) o (Err (stop.Syntax (length ts + 1))) h tt

step_at-real : (start end : Option Whole) (ts : List Token) → Real (step_at start end ts)
step_at-real start end ts =
    let by = number_at ts in
    either-real ((step_of by.0).magnitude == 0) (Err (stop.Syntax (length ts))) (closed mark.CloseBracket (slice start end (step_of by.0)) by.1) tt (closed-real mark.CloseBracket (slice start end (step_of by.0)) by.1)

stop_at-real : (start end : Option Whole) (ts : List Token) (o : Option (List Token)) → Real (stop_at start end ts o)
stop_at-real start end ts None = closed-real mark.CloseBracket (slice start end (step_of None)) ts
stop_at-real start end ts (Some us) = step_at-real start end us

only_number-real : (ts : List Token) (o : Option Whole) (us : List Token) → Real (only_number ts o us)
only_number-real ts None us = tt
only_number-real ts (Some n) us = closed-real mark.CloseBracket (step.Index n) us

start_at-real : (ts : List Token) (start : Option Whole) (us : List Token) (o : Option (List Token)) → Real (start_at ts start us o)
start_at-real ts start us None = only_number-real ts start us
start_at-real ts start us (Some vs) = let end = number_at vs in stop_at-real start end.0 end.1 (behind mark.Colon end.1)

star_at-real : (ts : List Token) (o : Option (List Token)) → Real (star_at ts o)
star_at-real ts (Some us) = closed-real mark.CloseBracket step.Elements us
star_at-real ts None = let start = number_at ts in start_at-real ts start.0 start.1 (behind mark.Colon start.1)

index_in-real : (n : ℕ) (ts : List Token) → Real (index_in n ts)
index_in-real n ts = opened-real n ts (index_at ts) (star_at-real ts (behind mark.Star ts))

flatten_in-real : (n : ℕ) (ts : List Token) → Real (flatten_in n ts)
flatten_in-real n ts = opened-real n ts (Ok (link.Flatten, ts)) tt

before_colon-real : (ts : List Token) (o : Option (List ℕ × List Token)) → Real (before_colon ts o)
before_colon-real ts None = tt
before_colon-real ts (Some key) = closed-real mark.Colon key.0 key.1

key_at-real : (ts : List Token) → Real (key_at ts)
key_at-real ts = before_colon-real ts (any_name_at ts)

counted-real : (f : Function) (left : ℕ) (o : Read (List (Argument Expr))) → Real o → Real (counted f left o)
counted-real f left (Err s) h = h
counted-real f left (Ok x) h = either-real (takes (arity_of f) (length x.0)) (Ok (step.Call f x.0, x.1)) (Err (stop.Arity left)) tt tt

err-real : {A : Type 0} (r : Result A Stop) (s : Stop) → Real r → r ≡ Err s → IsReal s
err-real (Ok x) s h e = absurd cc
err-real (Err t) s h e = let same : t ≡ s = cc in subst IsReal same h

-- What reading ends with.

pub record Ends {A : Type 0} (R : Result A Stop → Type 0) : Type 0 where
  pub outcome : Result A Stop
  pub is : R outcome
  pub real : Real outcome

ended : {A : Type 0} {R : Result A Stop → Type 0} (o : Result A Stop) → R o → Real o → Ends R
ended o is real = record { outcome = o; is = is; real = real }

-- All that goes on behind shorter tokens.
record AllEnd (ts : List Token) : Type 0 where
  joined : (n : ℕ) → Ends (Joined level.Pipe n ts)
  sides : (l : Level) (n : ℕ) (es : List Expr) → Ends (Sides l n es ts)
  comparisons : (n : ℕ) (cs : List (Compared Expr)) → Ends (Comparisons n cs ts)
  links : (n : ℕ) (c : Chain Expr) → Ends (Links n c ts)
  items : (n : ℕ) (es : List Expr) → Ends (MoreItems n es ts)
  members : (n : ℕ) (ps : List (Pair Expr)) → Ends (MoreMembers n ps ts)
  arguments : (n : ℕ) (args : List (Argument Expr)) → Ends (MoreArguments n args ts)

abbrev Below : ℕ → Type 0
Below k = (us : List Token) → length us < k → AllEnd us

-- What opens a bracket.

enclosed_ends : (m : Mark) (n : ℕ) (us : List Token) → AllEnd us → Ends (Enclosed m n us)
enclosed_ends m n us all = elim (cases_lt n 100) [
  | inl less ↦ (let r = all.joined (n + 1) in
      ended (r.outcome >>= (λ x. closed m x.0 x.1)) (Enclosed.enclosed less r.is) (bind-real r.outcome (λ x. closed m x.0 x.1) r.real (λ x. closed-real m x.0 x.1)))
  | inr deep ↦ ended _ (Enclosed.deep_bracket deep) tt
]

items_end : (n : ℕ) (us : List Token) → AllEnd us → Ends (Items n us)
items_end n us all = elim (cases_lt n 100) [
  | inl less ↦ (let r = all.items (n + 1) [] in ended r.outcome (Items.items less r.is) r.real)
  | inr deep ↦ ended _ (Items.deep_list deep) tt
]

members_end : (n : ℕ) (us : List Token) → AllEnd us → Ends (Members n us)
members_end n us all = elim (cases_lt n 100) [
  | inl less ↦ (let r = all.members (n + 1) [] in ended r.outcome (Members.members less r.is) r.real)
  | inr deep ↦ ended _ (Members.deep_hash deep) tt
]

arguments_end : (n : ℕ) (us : List Token) → AllEnd us → Ends (Arguments n us)
arguments_end n us all = of_option (behind mark.CloseGroup us)
    (λ e. let r = all.arguments n [] in ended r.outcome (Arguments.arguments e r.is) r.real)
    (λ rest e. ended (Ok ([], rest)) (Arguments.no_arguments e) tt)

named_ends : (k n : ℕ) (t : List ℕ) (ts : List Token) → Below k → length ts < k → Ends (Named n t ts)
named_ends k n t ts below less = of_option (behind mark.OpenGroup ts)
    (λ e. ended (Ok (step.Field t, ts)) (Named.field e) tt)
    (λ us e. of_option (function_named t)
    (λ f. ended _ (Named.unknown e f) tt)
    (λ g f. elim (cases_lt n 100) [
      | inl inside ↦ (let r = arguments_end (n + 1) us (below us (omega (arith, behind-lt mark.OpenGroup ts us e))) in
          ended (counted g (length ts + 1) r.outcome) (Named.call e f inside r.is) (counted-real g (length ts + 1) r.outcome r.real))
      | inr deep ↦ ended _ (Named.deep_call e f deep) tt
    ]))

part_ends : (k n : ℕ) (ts : List Token) → Below k → length ts ≤ k → Ends (Part n ts)
part_ends k n ts below le = of_option (behind mark.Star ts)
    (λ a. of_option (behind mark.OpenBracket ts)
    (λ b. of_option (behind mark.OpenBrace ts)
    (λ c. of_option (name_at ts)
    (λ d. of_option (quoted_at ts)
    (λ e. ended _ (Part.nothing a b c d e) tt)
    (λ x e. ended (Ok (step.Field x.0, x.1)) (Part.quoted e) tt))
    (λ x d. let r = named_ends k n x.0 x.1 below (omega (arith, shorter-at ts (name_at ts) x.0 x.1 (name_at-shorter ts) d)) in ended r.outcome (Part.name d r.is) r.real))
    (λ us c. let r = members_end n us (below us (omega (arith, behind-lt mark.OpenBrace ts us c))) in ended (made step.Hash r.outcome) (Part.hash c r.is) (made-real step.Hash r.outcome r.real)))
    (λ us b. let r = items_end n us (below us (omega (arith, behind-lt mark.OpenBracket ts us b))) in ended (made step.List r.outcome) (Part.list b r.is) (made-real step.List r.outcome r.real)))
    (λ us a. ended (Ok (step.Values, us)) (Part.values a) tt)

first_ends : (k n : ℕ) (ts : List Token) → Below k → length ts ≤ k → Ends (First n ts)
first_ends k n ts below le = of_option (behind mark.OpenGroup ts)
    (λ a. of_option (behind mark.OpenFilter ts)
    (λ b. of_option (behind_index ts)
    (λ c. of_option (behind mark.Flatten ts)
    (λ d. of_option (behind mark.Current ts)
    (λ e. of_option (literal_at ts)
    (λ f. let r = part_ends k n ts below le in ended (made link.Step r.outcome) (First.part a b c d e f r.is) (made-real link.Step r.outcome r.real))
    (λ x f. ended (Ok (link.Step (step.Literal x.0), x.1)) (First.literal f) tt))
    (λ us e. ended (Ok (link.Step step.Current, us)) (First.current e) tt))
    (λ us d. ended (flatten_in n us) (First.first_flatten d) (flatten_in-real n us)))
    (λ us c. ended (made link.Step (index_in n us)) (First.first_index c) (made-real link.Step (index_in n us) (index_in-real n us))))
    (λ us b. let r = enclosed_ends mark.CloseBracket n us (below us (omega (arith, behind-lt mark.OpenFilter ts us b))) in
    ended (made (λ e. link.Step (step.FilterProjection e)) r.outcome) (First.first_filter b r.is) (made-real (λ e. link.Step (step.FilterProjection e)) r.outcome r.real)))
    (λ us a. let r = enclosed_ends mark.CloseGroup n us (below us (omega (arith, behind-lt mark.OpenGroup ts us a))) in
    ended (made (λ e. link.Step (step.Group e)) r.outcome) (First.group a r.is) (made-real (λ e. link.Step (step.Group e)) r.outcome r.real))

link_ends : (k n : ℕ) (ts : List Token) → Below k → length ts ≤ k → Ends (LinkAt n ts)
link_ends k n ts below le = of_option (behind mark.Dot ts)
    (λ a. of_option (behind mark.OpenBracket ts)
    (λ b. of_option (behind mark.OpenFilter ts)
    (λ c. of_option (behind mark.Flatten ts)
    (λ d. ended (Ok None) (LinkAt.chain_ends a b c d) tt)
    (λ us d. ended (linking (λ k. k) (flatten_in n us)) (LinkAt.flatten d) (linking-real (λ k. k) (flatten_in n us) (flatten_in-real n us))))
    (λ us c. let r = enclosed_ends mark.CloseBracket n us (below us (omega (arith, behind-lt mark.OpenFilter ts us c))) in
    ended (linking (λ e. link.Step (step.FilterProjection e)) r.outcome) (LinkAt.filter c r.is) (linking-real (λ e. link.Step (step.FilterProjection e)) r.outcome r.real)))
    (λ us b. ended (linking link.Step (index_in n us)) (LinkAt.index b) (linking-real link.Step (index_in n us) (index_in-real n us))))
    (λ us a. let r = part_ends k n us below (omega (arith, behind-lt mark.Dot ts us a)) in ended (linking link.Step r.outcome) (LinkAt.dot a r.is) (linking-real link.Step r.outcome r.real))

-- A chain, and what it is compared with.

links_from : (k n : ℕ) (c : Chain Expr) (ts : List Token) → Below k → length ts ≤ k → (o : Linking) → LinkAt n ts o → Real o → Ends (Links n c ts)
links_from k n c ts below le (Err s) at real = ended (Err s) (Links.bad_link at) real
links_from k n c ts below le (Ok None) at real = ended (Ok (c, ts)) (Links.no_link at) tt
links_from k n c ts below le (Ok (Some x)) at real = let r = (below x.1 (omega (arith, link-within at))).links n (linked c x.0) in ended r.outcome (Links.more_links at r.is) r.real

links_end : (k n : ℕ) (c : Chain Expr) (ts : List Token) → Below k → length ts ≤ k → Ends (Links n c ts)
links_end k n c ts below le = let r = link_ends k n ts below le in links_from k n c ts below le r.outcome r.is r.real

chain_from : (k n : ℕ) (ts : List Token) → Below k → length ts ≤ k → (o : Read Link) → First n ts o → Real o → Ends (ChainAt n ts)
chain_from k n ts below le (Err s) first real = ended (Err s) (ChainAt.bad_start first) real
chain_from k n ts below le (Ok x) first real = let r = links_end k n (linked empty_chain x.0) x.1 below (omega (arith, first-within first)) in ended r.outcome (ChainAt.started first r.is) r.real

chain_ends : (k n : ℕ) (ts : List Token) → Below k → length ts ≤ k → Ends (ChainAt n ts)
chain_ends k n ts below le = let r = first_ends k n ts below le in chain_from k n ts below le r.outcome r.is r.real

operand_ends : (k n : ℕ) (ts : List Token) → Below k → length ts ≤ k → Ends (OperandAt n ts)
operand_ends k n ts below le =
    let r = chain_ends k n (negations_at ts).1 below (omega (arith, negations_at-le ts)) in
    ended (made (operand (negations_at ts).0) r.outcome) (OperandAt.negated r.is) (made-real (operand (negations_at ts).0) r.outcome r.real)

right_from : (k n : ℕ) (cs : List (Compared Expr)) (ts : List Token) (c : Comparator) (us : List Token) → Below k → length us < k → comparator_at ts ≡ Some (c, us) → (o : Read (Operand Expr)) → OperandAt n us o → Real o → Ends (Comparisons n cs ts)
right_from k n cs ts c us below less e (Err s) a real = ended (Err s) (Comparisons.bad_right e a) real
right_from k n cs ts c us below less e (Ok x) a real =
    let r = (below x.1 (omega (arith, operand-within a))).comparisons n (cs ++ compared c x.0 ∷ []) in ended r.outcome (Comparisons.more_compared e a r.is) r.real

comparisons_end : (k n : ℕ) (cs : List (Compared Expr)) (ts : List Token) → Below k → length ts ≤ k → Ends (Comparisons n cs ts)
comparisons_end k n cs ts below le = of_option (comparator_at ts)
    (λ e. ended (Ok (cs, ts)) (Comparisons.no_comparator e) tt)
    (λ x e. let less : length x.1 < k = omega (arith, shorter-at ts (comparator_at ts) x.0 x.1 (comparator_at-shorter ts) e) in
    let r = operand_ends k n x.1 below (omega (arith, less)) in right_from k n cs ts x.0 x.1 below less e r.outcome r.is r.real)

comparison_from : (k n : ℕ) (ts : List Token) → Below k → length ts ≤ k → (o : Read (Operand Expr)) → OperandAt n ts o → Real o → Ends (Comparison n ts)
comparison_from k n ts below le (Err s) a real = ended (Err s) (Comparison.bad_first a) real
comparison_from k n ts below le (Ok x) a real =
    let r = comparisons_end k n [] x.1 below (omega (arith, operand-within a)) in
    ended (made (comparison x.0) r.outcome) (Comparison.compared_with a r.is) (made-real (comparison x.0) r.outcome r.real)

comparison_ends : (k n : ℕ) (ts : List Token) → Below k → length ts ≤ k → Ends (Comparison n ts)
comparison_ends k n ts below le = let r = operand_ends k n ts below le in comparison_from k n ts below le r.outcome r.is r.real

-- The levels, from the tightest.

sides_from : (k : ℕ) (l : Level) (n : ℕ) (es : List Expr) (ts : List Token) → Below k → length ts ≤ k → (o : Read Expr) → Side l n ts o → Real o → Ends (Sides l n es ts)
sides_from k l n es ts below le (Err s) side real = ended (Err s) (Sides.bad_side side) real
sides_from k l n es ts below le (Ok x) side real = of_option (behind (mark_of l) x.1)
    (λ e. ended (Ok (es ++ x.0 ∷ [], x.1)) (Sides.last_side side e) tt)
    (λ rest e. let r = (below rest (omega (arith, side-within side, behind-lt (mark_of l) x.1 rest e))).sides l n (es ++ x.0 ∷ []) in ended r.outcome (Sides.more_sides side e r.is) r.real)

joined_from : (l : Level) (n : ℕ) (ts : List Token) → Ends (Sides l n [] ts) → Ends (Joined l n ts)
joined_from l n ts r = ended (made (one_of l) r.outcome) (Joined.sides r.is) (made-real (one_of l) r.outcome r.real)

and_sides : (k n : ℕ) (es : List Expr) (ts : List Token) → Below k → length ts ≤ k → Ends (Sides level.And n es ts)
and_sides k n es ts below le = let r = comparison_ends k n ts below le in sides_from k level.And n es ts below le r.outcome (Side.and_side r.is) r.real

or_sides : (k n : ℕ) (es : List Expr) (ts : List Token) → Below k → length ts ≤ k → Ends (Sides level.Or n es ts)
or_sides k n es ts below le = let r = joined_from level.And n ts (and_sides k n [] ts below le) in sides_from k level.Or n es ts below le r.outcome (Side.or_side r.is) r.real

pipe_sides : (k n : ℕ) (es : List Expr) (ts : List Token) → Below k → length ts ≤ k → Ends (Sides level.Pipe n es ts)
pipe_sides k n es ts below le = let r = joined_from level.Or n ts (or_sides k n [] ts below le) in sides_from k level.Pipe n es ts below le r.outcome (Side.pipe_side r.is) r.real

sides_end : (k : ℕ) (ts : List Token) → Below k → length ts ≤ k → (l : Level) (n : ℕ) (es : List Expr) → Ends (Sides l n es ts)
sides_end k ts below le level.Pipe n es = pipe_sides k n es ts below le
sides_end k ts below le level.Or n es = or_sides k n es ts below le
sides_end k ts below le level.And n es = and_sides k n es ts below le

joined_ends : (k n : ℕ) (ts : List Token) → Below k → length ts ≤ k → Ends (Joined level.Pipe n ts)
joined_ends k n ts below le = joined_from level.Pipe n ts (pipe_sides k n [] ts below le)

-- What stands inside brackets.

items_from : (k n : ℕ) (es : List Expr) (ts : List Token) → Below k → length ts ≤ k → (o : Read Expr) → Joined level.Pipe n ts o → Real o → Ends (MoreItems n es ts)
items_from k n es ts below le (Err s) v real = ended (Err s) (MoreItems.bad_item v) real
items_from k n es ts below le (Ok x) v real = of_option (behind mark.CloseBracket x.1)
    (λ e. of_result (past mark.Comma x.1)
    (λ rest f. let r = (below rest (omega (arith, joined-within v, past-lt mark.Comma x.1 rest f))).items n (es ++ x.0 ∷ []) in ended r.outcome (MoreItems.more_items v e f r.is) r.real)
    (λ s f. ended (Err s) (MoreItems.open_list v e f) (err-real (past mark.Comma x.1) s (past-real mark.Comma x.1) f)))
    (λ rest e. ended (Ok (es ++ x.0 ∷ [], rest)) (MoreItems.last_item v e) tt)

members_from : (k n : ℕ) (ps : List (Pair Expr)) (ts : List Token) (key : List ℕ) (us : List Token) → Below k → length ts ≤ k → key_at ts ≡ Ok (key, us) → (o : Read Expr) → Joined level.Pipe n us o → Real o → Ends (MoreMembers n ps ts)
members_from k n ps ts key us below le g (Err s) v real = ended (Err s) (MoreMembers.bad_member g v) real
members_from k n ps ts key us below le g (Ok x) v real =
    let within : length x.1 ≤ k = omega (arith, joined-within v, key_at-le ts key us g) in
    of_option (behind mark.CloseBrace x.1)
    (λ e. of_result (past mark.Comma x.1)
    (λ rest f. let r = (below rest (omega (arith, within, past-lt mark.Comma x.1 rest f))).members n (ps ++ member key x.0 ∷ []) in ended r.outcome (MoreMembers.more_members g v e f r.is) r.real)
    (λ s f. ended (Err s) (MoreMembers.open_hash g v e f) (err-real (past mark.Comma x.1) s (past-real mark.Comma x.1) f)))
    (λ rest e. ended (Ok (ps ++ member key x.0 ∷ [], rest)) (MoreMembers.last_member g v e) tt)

more_members_end : (k n : ℕ) (ps : List (Pair Expr)) (ts : List Token) → Below k → length ts ≤ k → Ends (MoreMembers n ps ts)
more_members_end k n ps ts below le = of_result (key_at ts)
    (λ x g. let r = joined_ends k n x.1 below (omega (arith, key_at-le ts x.0 x.1 g)) in members_from k n ps ts x.0 x.1 below le g r.outcome r.is r.real)
    (λ s g. ended (Err s) (MoreMembers.bad_key g) (err-real (key_at ts) s (key_at-real ts) g))

argument_ends : (k n : ℕ) (ts : List Token) → Below k → length ts ≤ k → Ends (ArgumentAt n ts)
argument_ends k n ts below le = of_option (behind mark.Expref ts)
    (λ e. let r = joined_ends k n ts below le in ended (made argument.Value r.outcome) (ArgumentAt.value e r.is) (made-real argument.Value r.outcome r.real))
    (λ us e. let r = joined_ends k n us below (omega (arith, behind-lt mark.Expref ts us e)) in ended (made argument.Expref r.outcome) (ArgumentAt.expref e r.is) (made-real argument.Expref r.outcome r.real))

arguments_from : (k n : ℕ) (args : List (Argument Expr)) (ts : List Token) → Below k → length ts ≤ k → (o : Read (Argument Expr)) → ArgumentAt n ts o → Real o → Ends (MoreArguments n args ts)
arguments_from k n args ts below le (Err s) a real = ended (Err s) (MoreArguments.bad_argument a) real
arguments_from k n args ts below le (Ok x) a real = of_option (behind mark.CloseGroup x.1)
    (λ e. of_result (past mark.Comma x.1)
    (λ rest f. let r = (below rest (omega (arith, argument-within a, past-lt mark.Comma x.1 rest f))).arguments n (args ++ x.0 ∷ []) in ended r.outcome (MoreArguments.more_arguments a e f r.is) r.real)
    (λ s f. ended (Err s) (MoreArguments.open_call a e f) (err-real (past mark.Comma x.1) s (past-real mark.Comma x.1) f)))
    (λ rest e. ended (Ok (args ++ x.0 ∷ [], rest)) (MoreArguments.last_argument a e) tt)

all_end : (k : ℕ) (ts : List Token) → Below k → length ts ≤ k → AllEnd ts
all_end k ts below le = record {
  joined = λ n. joined_ends k n ts below le;
  sides = sides_end k ts below le;
  comparisons = λ n cs. comparisons_end k n cs ts below le;
  links = λ n c. links_end k n c ts below le;
  items = λ n es. (let r = joined_ends k n ts below le in items_from k n es ts below le r.outcome r.is r.real);
  members = λ n ps. more_members_end k n ps ts below le;
  arguments = λ n args. (let r = argument_ends k n ts below le in arguments_from k n args ts below le r.outcome r.is r.real);
}

all_below : (k : ℕ) → Below k
all_below zero us less = absurd (omega arith)
all_below (suc k) us less = all_end k us (all_below k) (omega arith)

pub read_ends : (ts : List Token) → Ends (Joined level.Pipe 0 ts)
read_ends ts = (all_below (length ts + 1) ts (omega arith)).joined 0
