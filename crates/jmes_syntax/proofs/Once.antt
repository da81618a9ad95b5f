-- Reading tokens gives one outcome.
use Rattle.std.proofs.Common.{◌≡◌, ℕ, ◌+◌, ◌<◌, ◌≤◌, List, [], ◌∷◌, ◌++◌, length, Some, None, Ok, Err, refl, ap, subst, ◌∙◌, arith}
use Rattle.std.specs.Prelude.{MatchOption, MatchResult}
use Rattle.texts.specs.declared.pairs.Pair.{Pair}
use Rattle.jmes_syntax.specs.declared.chains.Link.{Link}
use Rattle.jmes_syntax.specs.declared.chains.Link.TheVariants as link
use Rattle.jmes_syntax.specs.declared.expr.Argument.{Argument}
use Rattle.jmes_syntax.specs.declared.expr.Argument.TheVariants as argument
use Rattle.jmes_syntax.specs.declared.expr.Chain.{Chain}
use Rattle.jmes_syntax.specs.declared.expr.Comparator.{Comparator}
use Rattle.jmes_syntax.specs.declared.expr.Compared.{Compared}
use Rattle.jmes_syntax.specs.declared.expr.Expr.{Expr}
use Rattle.jmes_syntax.specs.declared.expr.Operand.{Operand}
use Rattle.jmes_syntax.specs.declared.expr.Step.{Step}
use Rattle.jmes_syntax.specs.declared.expr.Step.TheVariants as step
use Rattle.jmes_syntax.specs.declared.reader.Level.{Level}
use Rattle.jmes_syntax.specs.declared.reader.Level.TheVariants as level
use Rattle.jmes_syntax.specs.declared.stop.Stop.TheVariants as stop
use Rattle.jmes_syntax.specs.declared.token.Mark.{Mark}
use Rattle.jmes_syntax.specs.declared.token.Mark.TheVariants as mark
use Rattle.jmes_syntax.specs.declared.token.Token.{Token}
use Rattle.jmes_syntax.specs.Brackets.{closed, behind_index}
use Rattle.jmes_syntax.specs.Chains.{linked, empty_chain}
use Rattle.jmes_syntax.specs.Functions.{function_named}
use Rattle.jmes_syntax.specs.Reading.{Read, made}
use Rattle.texts.specs.Calls.{◌>>=◌}
use Rattle.jmes_syntax.specs.Scan.{comparator_at, negations_at, counted, key_at, index_in, flatten_in, Linking, linking, Joined, Side, Sides, Comparison, Comparisons, OperandAt, ChainAt, Links, LinkAt, First, Part, Named, Enclosed, Items, MoreItems, Members, MoreMembers, Arguments, MoreArguments, ArgumentAt}
use Rattle.jmes_syntax.specs.Trees.{mark_of, one_of, comparison, member, compared, operand}
use Rattle.jmes_syntax.specs.Tokens.{behind, past, name_at, quoted_at, literal_at}
use Rattle.jmes_syntax.proofs.Fronts.{other-behind, index-other, other-index, no_index, literal-behind, name-behind, quoted-behind, quoted-name}

-- What a part gives, told by what its tokens begin with.

joined_step : {l : Level} {n : ℕ} {ts : List Token} {o : Read Expr} → Joined l n ts o → (q : Read (List Expr)) × Sides l n [] ts q × (o ≡ made (one_of l) q)
joined_step (Joined.sides {o = q} es) = (q, es, refl)

abbrev SideStep : Level → ℕ → List Token → Read Expr → Type 0
SideStep level.Pipe n ts o = Joined level.Or n ts o
SideStep level.Or n ts o = Joined level.And n ts o
SideStep level.And n ts o = Comparison n ts o

side_step : {l : Level} {n : ℕ} {ts : List Token} {o : Read Expr} → Side l n ts o → SideStep l n ts o
side_step (Side.pipe_side e) = e
side_step (Side.or_side e) = e
side_step (Side.and_side e) = e

abbrev SidesEnd : Level → ℕ → List Expr → Read Expr → Read (List Expr) → Type 0
SidesEnd l n es (Err s) o = o ≡ Err s
SidesEnd l n es (Ok x) o = MatchOption (behind (mark_of l) x.1) (o ≡ Ok (es ++ x.0 ∷ [], x.1)) (λ rest. Sides l n (es ++ x.0 ∷ []) rest o)

sides_step : {l : Level} {n : ℕ} {es : List Expr} {ts : List Token} {o : Read (List Expr)} → Sides l n es ts o → (r : Read Expr) × Side l n ts r × SidesEnd l n es r o
sides_step (Sides.bad_side {s = s} e) = (Err s, e, refl)
sides_step (Sides.last_side {us = us} {e = d} e f) = (Ok (d, us), e, rw f refl)
sides_step (Sides.more_sides {us = us} {e = d} e f es) = (Ok (d, us), e, rw f es)

abbrev ComparisonEnd : ℕ → Read (Operand Expr) → Read Expr → Type 0
ComparisonEnd n (Err s) o = o ≡ Err s
ComparisonEnd n (Ok x) o = (q : Read (List (Compared Expr))) × Comparisons n [] x.1 q × (o ≡ made (comparison x.0) q)

comparison_step : {n : ℕ} {ts : List Token} {o : Read Expr} → Comparison n ts o → (r : Read (Operand Expr)) × OperandAt n ts r × ComparisonEnd n r o
comparison_step (Comparison.bad_first {s = s} a) = (Err s, a, refl)
comparison_step (Comparison.compared_with {us = us} {a = a} {o = q} d cs) = (Ok (a, us), d, (q, cs, refl))

abbrev RightEnd : ℕ → List (Compared Expr) → Comparator → Read (Operand Expr) → Read (List (Compared Expr)) → Type 0
RightEnd n cs c (Err s) o = o ≡ Err s
RightEnd n cs c (Ok x) o = Comparisons n (cs ++ compared c x.0 ∷ []) x.1 o

abbrev ComparisonsStep : ℕ → List (Compared Expr) → List Token → Read (List (Compared Expr)) → Type 0
ComparisonsStep n cs ts o = MatchOption (comparator_at ts) (o ≡ Ok (cs, ts)) (λ x. (r : Read (Operand Expr)) × OperandAt n x.1 r × RightEnd n cs x.0 r o)

comparisons_step : {n : ℕ} {cs : List (Compared Expr)} {ts : List Token} {o : Read (List (Compared Expr))} → Comparisons n cs ts o → ComparisonsStep n cs ts o
comparisons_step (Comparisons.no_comparator e) = rw e refl
comparisons_step (Comparisons.bad_right {s = s} e a) = rw e (Err s, a, refl)
comparisons_step (Comparisons.more_compared {vs = vs} {a = a} e d cs) = rw e (Ok (a, vs), d, cs)

operand_step : {n : ℕ} {ts : List Token} {o : Read (Operand Expr)} → OperandAt n ts o → (q : Read (Chain Expr)) × ChainAt n (negations_at ts).1 q × (o ≡ made (operand (negations_at ts).0) q)
operand_step (OperandAt.negated {o = q} c) = (q, c, refl)

abbrev StartEnd : ℕ → Read Link → Read (Chain Expr) → Type 0
StartEnd n (Err s) o = o ≡ Err s
StartEnd n (Ok x) o = Links n (linked empty_chain x.0) x.1 o

chain_step : {n : ℕ} {ts : List Token} {o : Read (Chain Expr)} → ChainAt n ts o → (r : Read Link) × First n ts r × StartEnd n r o
chain_step (ChainAt.bad_start {s = s} k) = (Err s, k, refl)
chain_step (ChainAt.started {us = us} {k = k} first ks) = (Ok (k, us), first, ks)

abbrev LinkEnd : ℕ → Chain Expr → List Token → Linking → Read (Chain Expr) → Type 0
LinkEnd n c ts (Err s) o = o ≡ Err s
LinkEnd n c ts (Ok None) o = o ≡ Ok (c, ts)
LinkEnd n c ts (Ok (Some x)) o = Links n (linked c x.0) x.1 o

links_step : {n : ℕ} {c : Chain Expr} {ts : List Token} {o : Read (Chain Expr)} → Links n c ts o → (r : Linking) × LinkAt n ts r × LinkEnd n c ts r o
links_step (Links.no_link k) = (Ok None, k, refl)
links_step (Links.bad_link {s = s} k) = (Err s, k, refl)
links_step (Links.more_links {us = us} {k = k} at ks) = (Ok (Some (k, us)), at, ks)

abbrev LinkStep : ℕ → List Token → Linking → Type 0
LinkStep n ts o = MatchOption (behind mark.Dot ts)
    (MatchOption (behind mark.OpenBracket ts)
    (MatchOption (behind mark.OpenFilter ts)
    (MatchOption (behind mark.Flatten ts) (o ≡ Ok None) (λ us. o ≡ linking (λ k. k) (flatten_in n us)))
    (λ us. (q : Read Expr) × Enclosed mark.CloseBracket n us q × (o ≡ linking (λ e. link.Step (step.FilterProjection e)) q)))
    (λ us. o ≡ linking link.Step (index_in n us)))
    (λ us. (q : Read (Step Expr)) × Part n us q × (o ≡ linking link.Step q))

link_step : {n : ℕ} {ts : List Token} {o : Linking} → LinkAt n ts o → LinkStep n ts o
link_step (LinkAt.dot {o = q} e p) = rw e (q, p, refl)
link_step (LinkAt.index {ts = ts} {us = us} e) = rw (other-behind mark.OpenBracket mark.Dot ts us refl e, e) refl
link_step (LinkAt.filter {ts = ts} {us = us} {o = q} e f) = rw (other-behind mark.OpenFilter mark.Dot ts us refl e, other-behind mark.OpenFilter mark.OpenBracket ts us refl e, e) (q, f, refl)
link_step (LinkAt.flatten {ts = ts} {us = us} e) = rw (other-behind mark.Flatten mark.Dot ts us refl e, other-behind mark.Flatten mark.OpenBracket ts us refl e, other-behind mark.Flatten mark.OpenFilter ts us refl e, e) refl
link_step (LinkAt.chain_ends a b c d) = rw (a, b, c, d) refl

abbrev FirstStep : ℕ → List Token → Read Link → Type 0
FirstStep n ts o = MatchOption (behind mark.OpenGroup ts)
    (MatchOption (behind mark.OpenFilter ts)
    (MatchOption (behind_index ts)
    (MatchOption (behind mark.Flatten ts)
    (MatchOption (behind mark.Current ts)
    (MatchOption (literal_at ts) ((q : Read (Step Expr)) × Part n ts q × (o ≡ made link.Step q)) (λ x. o ≡ Ok (link.Step (step.Literal x.0), x.1)))
    (λ us. o ≡ Ok (link.Step step.Current, us)))
    (λ us. o ≡ flatten_in n us))
    (λ us. o ≡ made link.Step (index_in n us)))
    (λ us. (q : Read Expr) × Enclosed mark.CloseBracket n us q × (o ≡ made (λ e. link.Step (step.FilterProjection e)) q)))
    (λ us. (q : Read Expr) × Enclosed mark.CloseGroup n us q × (o ≡ made (λ e. link.Step (step.Group e)) q))

first_step : {n : ℕ} {ts : List Token} {o : Read Link} → First n ts o → FirstStep n ts o
first_step (First.group {o = q} e f) = rw e (q, f, refl)
first_step (First.first_filter {ts = ts} {us = us} {o = q} e f) = rw (other-behind mark.OpenFilter mark.OpenGroup ts us refl e, e) (q, f, refl)
first_step (First.first_index {ts = ts} {us = us} e) = rw (index-other mark.OpenGroup ts us refl e, index-other mark.OpenFilter ts us refl e, e) refl
first_step (First.first_flatten {ts = ts} {us = us} e) =
    rw (other-behind mark.Flatten mark.OpenGroup ts us refl e, other-behind mark.Flatten mark.OpenFilter ts us refl e, other-index mark.Flatten ts us refl e, e) refl
first_step (First.current {ts = ts} {us = us} e) =
    rw (other-behind mark.Current mark.OpenGroup ts us refl e, other-behind mark.Current mark.OpenFilter ts us refl e, other-index mark.Current ts us refl e, other-behind mark.Current mark.Flatten ts us refl e, e) refl
first_step (First.literal {ts = ts} {us = us} {d = d} e) =
    rw (literal-behind mark.OpenGroup ts (d, us) e, literal-behind mark.OpenFilter ts (d, us) e, no_index ts (literal-behind mark.OpenBracket ts (d, us) e), literal-behind mark.Flatten ts (d, us) e, literal-behind mark.Current ts (d, us) e, e) refl
first_step (First.part {o = q} a b c d e f p) = rw (a, b, c, d, e, f) (q, p, refl)

abbrev PartStep : ℕ → List Token → Read (Step Expr) → Type 0
PartStep n ts o = MatchOption (behind mark.Star ts)
    (MatchOption (behind mark.OpenBracket ts)
    (MatchOption (behind mark.OpenBrace ts)
    (MatchOption (name_at ts)
    (MatchOption (quoted_at ts) (o ≡ Err (stop.Syntax (length ts))) (λ x. o ≡ Ok (step.Field x.0, x.1)))
    (λ x. Named n x.0 x.1 o))
    (λ us. (q : Read (List (Pair Expr))) × Members n us q × (o ≡ made step.Hash q)))
    (λ us. (q : Read (List Expr)) × Items n us q × (o ≡ made step.List q)))
    (λ us. o ≡ Ok (step.Values, us))

part_step : {n : ℕ} {ts : List Token} {o : Read (Step Expr)} → Part n ts o → PartStep n ts o
part_step (Part.values e) = rw e refl
part_step (Part.list {ts = ts} {us = us} {o = q} e f) = rw (other-behind mark.OpenBracket mark.Star ts us refl e, e) (q, f, refl)
part_step (Part.hash {ts = ts} {us = us} {o = q} e f) = rw (other-behind mark.OpenBrace mark.Star ts us refl e, other-behind mark.OpenBrace mark.OpenBracket ts us refl e, e) (q, f, refl)
part_step (Part.name {t = t} {ts = ts} {us = us} e f) =
    rw (name-behind mark.Star ts (t, us) e, name-behind mark.OpenBracket ts (t, us) e, name-behind mark.OpenBrace ts (t, us) e, e) f
part_step (Part.quoted {t = t} {ts = ts} {us = us} e) =
    rw (quoted-behind mark.Star ts (t, us) e, quoted-behind mark.OpenBracket ts (t, us) e, quoted-behind mark.OpenBrace ts (t, us) e, quoted-name ts (t, us) e, e) refl
part_step (Part.nothing a b c d e) = rw (a, b, c, d, e) refl

-- inside or too deep
abbrev Deeper : ℕ → Type 0 → Type 0 → Type 0
Deeper n inside deep = (n < 100 → inside) × (100 ≤ n → deep)

is_inside : (n : ℕ) (P Q : Type 0) → n < 100 → P → Deeper n P Q
is_inside n P Q less p = ((λ _. p), (λ more. absurd (omega arith)))

is_deep : (n : ℕ) (P Q : Type 0) → 100 ≤ n → Q → Deeper n P Q
is_deep n P Q more q = ((λ less. absurd (omega arith)), (λ _. q))

abbrev NamedStep : ℕ → List ℕ → List Token → Read (Step Expr) → Type 0
NamedStep n t ts o = MatchOption (behind mark.OpenGroup ts) (o ≡ Ok (step.Field t, ts))
    (λ us. MatchOption (function_named t) (o ≡ Err (stop.UnknownFunction (length ts + 1)))
    (λ f. Deeper n ((q : Read (List (Argument Expr))) × Arguments (n + 1) us q × (o ≡ counted f (length ts + 1) q)) (o ≡ Err (stop.Syntax (length ts)))))

named_step : {n : ℕ} {t : List ℕ} {ts : List Token} {o : Read (Step Expr)} → Named n t ts o → NamedStep n t ts o
named_step (Named.field e) = rw e refl
named_step (Named.unknown e f) = rw (e, f) refl
named_step (Named.deep_call {n = n} e f more) = rw (e, f) (is_deep n _ _ more refl)
named_step (Named.call {n = n} {o = q} e f less args) = rw (e, f) (is_inside n _ _ less (q, args, refl))

abbrev EnclosedStep : Mark → ℕ → List Token → Read Expr → Type 0
EnclosedStep m n ts o = Deeper n ((q : Read Expr) × Joined level.Pipe (n + 1) ts q × (o ≡ (q >>= (λ x. closed m x.0 x.1)))) (o ≡ Err (stop.Syntax (length ts + 1)))

enclosed_step : {m : Mark} {n : ℕ} {ts : List Token} {o : Read Expr} → Enclosed m n ts o → EnclosedStep m n ts o
enclosed_step (Enclosed.deep_bracket {n = n} more) = is_deep n _ _ more refl
enclosed_step (Enclosed.enclosed {n = n} {o = q} less e) = is_inside n _ _ less (q, e, refl)

abbrev ItemsStep : ℕ → List Token → Read (List Expr) → Type 0
ItemsStep n ts o = Deeper n (MoreItems (n + 1) [] ts o) (o ≡ Err (stop.Syntax (length ts + 1)))

items_step : {n : ℕ} {ts : List Token} {o : Read (List Expr)} → Items n ts o → ItemsStep n ts o
items_step (Items.deep_list {n = n} more) = is_deep n _ _ more refl
items_step (Items.items {n = n} less es) = is_inside n _ _ less es

abbrev ItemEnd : ℕ → List Expr → Read Expr → Read (List Expr) → Type 0
ItemEnd n es (Err s) o = o ≡ Err s
ItemEnd n es (Ok x) o = MatchOption (behind mark.CloseBracket x.1)
    (MatchResult (past mark.Comma x.1) (λ rest. MoreItems n (es ++ x.0 ∷ []) rest o) (λ s. o ≡ Err s)) (λ rest. o ≡ Ok (es ++ x.0 ∷ [], rest))

more_items_step : {n : ℕ} {es : List Expr} {ts : List Token} {o : Read (List Expr)} → MoreItems n es ts o → (r : Read Expr) × Joined level.Pipe n ts r × ItemEnd n es r o
more_items_step (MoreItems.bad_item {s = s} e) = (Err s, e, refl)
more_items_step (MoreItems.last_item {us = us} {e = d} e f) = (Ok (d, us), e, rw f refl)
more_items_step (MoreItems.more_items {us = us} {e = d} e f g es) = (Ok (d, us), e, rw (f, g) es)
more_items_step (MoreItems.open_list {us = us} {e = d} e f g) = (Ok (d, us), e, rw (f, g) refl)

abbrev MembersStep : ℕ → List Token → Read (List (Pair Expr)) → Type 0
MembersStep n ts o = Deeper n (MoreMembers (n + 1) [] ts o) (o ≡ Err (stop.Syntax (length ts + 1)))

members_step : {n : ℕ} {ts : List Token} {o : Read (List (Pair Expr))} → Members n ts o → MembersStep n ts o
members_step (Members.deep_hash {n = n} more) = is_deep n _ _ more refl
members_step (Members.members {n = n} less ms) = is_inside n _ _ less ms

abbrev MemberEnd : ℕ → List (Pair Expr) → List ℕ → Read Expr → Read (List (Pair Expr)) → Type 0
MemberEnd n ps k (Err s) o = o ≡ Err s
MemberEnd n ps k (Ok x) o = MatchOption (behind mark.CloseBrace x.1)
    (MatchResult (past mark.Comma x.1) (λ rest. MoreMembers n (ps ++ member k x.0 ∷ []) rest o) (λ s. o ≡ Err s)) (λ rest. o ≡ Ok (ps ++ member k x.0 ∷ [], rest))

abbrev MoreMembersStep : ℕ → List (Pair Expr) → Read (List ℕ) → Read (List (Pair Expr)) → Type 0
MoreMembersStep n ps (Err s) o = o ≡ Err s
MoreMembersStep n ps (Ok key) o = (r : Read Expr) × Joined level.Pipe n key.1 r × MemberEnd n ps key.0 r o

more_members_step : {n : ℕ} {ps : List (Pair Expr)} {ts : List Token} {o : Read (List (Pair Expr))} → MoreMembers n ps ts o → MoreMembersStep n ps (key_at ts) o
more_members_step (MoreMembers.bad_key e) = rw e refl
more_members_step (MoreMembers.bad_member {s = s} e v) = rw e (Err s, v, refl)
more_members_step (MoreMembers.last_member {vs = vs} {e = d} e v f) = rw e (Ok (d, vs), v, rw f refl)
more_members_step (MoreMembers.more_members {vs = vs} {e = d} e v f g ms) = rw e (Ok (d, vs), v, rw (f, g) ms)
more_members_step (MoreMembers.open_hash {vs = vs} {e = d} e v f g) = rw e (Ok (d, vs), v, rw (f, g) refl)

abbrev ArgumentsStep : ℕ → List Token → Read (List (Argument Expr)) → Type 0
ArgumentsStep n ts o = MatchOption (behind mark.CloseGroup ts) (MoreArguments n [] ts o) (λ rest. o ≡ Ok ([], rest))

arguments_step : {n : ℕ} {ts : List Token} {o : Read (List (Argument Expr))} → Arguments n ts o → ArgumentsStep n ts o
arguments_step (Arguments.no_arguments e) = rw e refl
arguments_step (Arguments.arguments e args) = rw e args

abbrev ArgumentEnd : ℕ → List (Argument Expr) → Read (Argument Expr) → Read (List (Argument Expr)) → Type 0
ArgumentEnd n args (Err s) o = o ≡ Err s
ArgumentEnd n args (Ok x) o = MatchOption (behind mark.CloseGroup x.1)
    (MatchResult (past mark.Comma x.1) (λ rest. MoreArguments n (args ++ x.0 ∷ []) rest o) (λ s. o ≡ Err s)) (λ rest. o ≡ Ok (args ++ x.0 ∷ [], rest))

more_arguments_step : {n : ℕ} {args : List (Argument Expr)} {ts : List Token} {o : Read (List (Argument Expr))} → MoreArguments n args ts o → (r : Read (Argument Expr)) × ArgumentAt n ts r × ArgumentEnd n args r o
more_arguments_step (MoreArguments.bad_argument {s = s} a) = (Err s, a, refl)
more_arguments_step (MoreArguments.last_argument {us = us} {a = d} a f) = (Ok (d, us), a, rw f refl)
more_arguments_step (MoreArguments.more_arguments {us = us} {a = d} a f g args) = (Ok (d, us), a, rw (f, g) args)
more_arguments_step (MoreArguments.open_call {us = us} {a = d} a f g) = (Ok (d, us), a, rw (f, g) refl)

abbrev ArgumentStep : ℕ → List Token → Read (Argument Expr) → Type 0
ArgumentStep n ts o = MatchOption (behind mark.Expref ts)
    ((q : Read Expr) × Joined level.Pipe n ts q × (o ≡ made argument.Value q))
    (λ us. (q : Read Expr) × Joined level.Pipe n us q × (o ≡ made argument.Expref q))

argument_step : {n : ℕ} {ts : List Token} {o : Read (Argument Expr)} → ArgumentAt n ts o → ArgumentStep n ts o
argument_step (ArgumentAt.expref {o = q} e f) = rw e (q, f, refl)
argument_step (ArgumentAt.value {o = q} e f) = rw e (q, f, refl)

mutual
  pub joined_again : {l : Level} {n : ℕ} {ts : List Token} {o : Read Expr} → Joined l n ts o → (p : Read Expr) → Joined l n ts p → p ≡ o
  joined_again (Joined.sides {l = l} es) p v = let s = joined_step v in s.2 ∙ ap (made (one_of l)) (sides_again es s.0 s.1)

  side_again : {l : Level} {n : ℕ} {ts : List Token} {o : Read Expr} → Side l n ts o → (p : Read Expr) → Side l n ts p → p ≡ o
  side_again (Side.pipe_side e) p v = joined_again e p (side_step v)
  side_again (Side.or_side e) p v = joined_again e p (side_step v)
  side_again (Side.and_side e) p v = comparison_again e p (side_step v)

  sides_again : {l : Level} {n : ℕ} {es : List Expr} {ts : List Token} {o : Read (List Expr)} → Sides l n es ts o → (p : Read (List Expr)) → Sides l n es ts p → p ≡ o
  sides_again (Sides.bad_side {l = l} {n = n} {es = es} e) p v =
      let s = sides_step v in subst (λ r. SidesEnd l n es r p) (side_again e s.0 s.1) s.2
  sides_again (Sides.last_side {l = l} {n = n} {es = es} e f) p v =
      let s = sides_step v in rw f at (subst (λ r. SidesEnd l n es r p) (side_again e s.0 s.1) s.2)
  sides_again (Sides.more_sides {l = l} {n = n} {es = es} e f more) p v =
      let s = sides_step v in sides_again more p (rw f at (subst (λ r. SidesEnd l n es r p) (side_again e s.0 s.1) s.2))

  comparison_again : {n : ℕ} {ts : List Token} {o : Read Expr} → Comparison n ts o → (p : Read Expr) → Comparison n ts p → p ≡ o
  comparison_again (Comparison.bad_first {n = n} a) p v =
      let s = comparison_step v in subst (λ r. ComparisonEnd n r p) (operand_again a s.0 s.1) s.2
  comparison_again (Comparison.compared_with {n = n} {us = us} {a = d} a cs) p v =
      let s = comparison_step v in
      let r : ComparisonEnd n (Ok (d, us)) p = subst (λ r. ComparisonEnd n r p) (operand_again a s.0 s.1) s.2 in
      r.2 ∙ ap (made (comparison d)) (comparisons_again cs r.0 r.1)

  comparisons_again : {n : ℕ} {cs : List (Compared Expr)} {ts : List Token} {o : Read (List (Compared Expr))} → Comparisons n cs ts o → (p : Read (List (Compared Expr))) → Comparisons n cs ts p → p ≡ o
  comparisons_again (Comparisons.no_comparator e) p v = rw e at (comparisons_step v)
  comparisons_again (Comparisons.bad_right {n = n} {cs = cs} {c = c} e a) p v =
      let s = rw e at (comparisons_step v) in subst (λ r. RightEnd n cs c r p) (operand_again a s.0 s.1) s.2
  comparisons_again (Comparisons.more_compared {n = n} {cs = cs} {c = c} e a more) p v =
      let s = rw e at (comparisons_step v) in comparisons_again more p (subst (λ r. RightEnd n cs c r p) (operand_again a s.0 s.1) s.2)

  operand_again : {n : ℕ} {ts : List Token} {o : Read (Operand Expr)} → OperandAt n ts o → (p : Read (Operand Expr)) → OperandAt n ts p → p ≡ o
  operand_again (OperandAt.negated {ts = ts} c) p v = let s = operand_step v in s.2 ∙ ap (made (operand (negations_at ts).0)) (chain_again c s.0 s.1)

  chain_again : {n : ℕ} {ts : List Token} {o : Read (Chain Expr)} → ChainAt n ts o → (p : Read (Chain Expr)) → ChainAt n ts p → p ≡ o
  chain_again (ChainAt.bad_start {n = n} k) p v = let s = chain_step v in subst (λ r. StartEnd n r p) (first_again k s.0 s.1) s.2
  chain_again (ChainAt.started {n = n} k ks) p v = let s = chain_step v in links_again ks p (subst (λ r. StartEnd n r p) (first_again k s.0 s.1) s.2)

  links_again : {n : ℕ} {c : Chain Expr} {ts : List Token} {o : Read (Chain Expr)} → Links n c ts o → (p : Read (Chain Expr)) → Links n c ts p → p ≡ o
  links_again (Links.no_link {n = n} {c = c} {ts = ts} k) p v = let s = links_step v in subst (λ r. LinkEnd n c ts r p) (link_again k s.0 s.1) s.2
  links_again (Links.bad_link {n = n} {c = c} {ts = ts} k) p v = let s = links_step v in subst (λ r. LinkEnd n c ts r p) (link_again k s.0 s.1) s.2
  links_again (Links.more_links {n = n} {c = c} {ts = ts} k ks) p v = let s = links_step v in links_again ks p (subst (λ r. LinkEnd n c ts r p) (link_again k s.0 s.1) s.2)

  link_again : {n : ℕ} {ts : List Token} {o : Linking} → LinkAt n ts o → (p : Linking) → LinkAt n ts p → p ≡ o
  link_again (LinkAt.dot e f) p v = let s = rw e at (link_step v) in s.2 ∙ ap (linking link.Step) (part_again f s.0 s.1)
  link_again (LinkAt.index {ts = ts} {us = us} e) p v = rw (other-behind mark.OpenBracket mark.Dot ts us refl e, e) at (link_step v)
  link_again (LinkAt.filter {ts = ts} {us = us} e f) p v =
      let s = rw (other-behind mark.OpenFilter mark.Dot ts us refl e, other-behind mark.OpenFilter mark.OpenBracket ts us refl e, e) at (link_step v) in
      s.2 ∙ ap (linking (λ e. link.Step (step.FilterProjection e))) (enclosed_again f s.0 s.1)
  link_again (LinkAt.flatten {ts = ts} {us = us} e) p v =
      rw (other-behind mark.Flatten mark.Dot ts us refl e, other-behind mark.Flatten mark.OpenBracket ts us refl e, other-behind mark.Flatten mark.OpenFilter ts us refl e, e) at (link_step v)
  link_again (LinkAt.chain_ends a b c d) p v = rw (a, b, c, d) at (link_step v)

  first_again : {n : ℕ} {ts : List Token} {o : Read Link} → First n ts o → (p : Read Link) → First n ts p → p ≡ o
  first_again (First.group e f) p v = let s = rw e at (first_step v) in s.2 ∙ ap (made (λ e. link.Step (step.Group e))) (enclosed_again f s.0 s.1)
  first_again (First.first_filter {ts = ts} {us = us} e f) p v =
      let s = rw (other-behind mark.OpenFilter mark.OpenGroup ts us refl e, e) at (first_step v) in
      s.2 ∙ ap (made (λ e. link.Step (step.FilterProjection e))) (enclosed_again f s.0 s.1)
  first_again (First.first_index {ts = ts} {us = us} e) p v = rw (index-other mark.OpenGroup ts us refl e, index-other mark.OpenFilter ts us refl e, e) at (first_step v)
  first_again (First.first_flatten {ts = ts} {us = us} e) p v =
      rw (other-behind mark.Flatten mark.OpenGroup ts us refl e, other-behind mark.Flatten mark.OpenFilter ts us refl e, other-index mark.Flatten ts us refl e, e) at (first_step v)
  first_again (First.current {ts = ts} {us = us} e) p v =
      rw (other-behind mark.Current mark.OpenGroup ts us refl e, other-behind mark.Current mark.OpenFilter ts us refl e, other-index mark.Current ts us refl e, other-behind mark.Current mark.Flatten ts us refl e, e) at (first_step v)
  first_again (First.literal {ts = ts} {us = us} {d = d} e) p v =
      rw (literal-behind mark.OpenGroup ts (d, us) e, literal-behind mark.OpenFilter ts (d, us) e, no_index ts (literal-behind mark.OpenBracket ts (d, us) e), literal-behind mark.Flatten ts (d, us) e, literal-behind mark.Current ts (d, us) e, e) at (first_step v)
  first_again (First.part a b c d e f part) p v = let s = rw (a, b, c, d, e, f) at (first_step v) in s.2 ∙ ap (made link.Step) (part_again part s.0 s.1)

  part_again : {n : ℕ} {ts : List Token} {o : Read (Step Expr)} → Part n ts o → (p : Read (Step Expr)) → Part n ts p → p ≡ o
  part_again (Part.values e) p v = rw e at (part_step v)
  part_again (Part.list {ts = ts} {us = us} e f) p v =
      let s = rw (other-behind mark.OpenBracket mark.Star ts us refl e, e) at (part_step v) in s.2 ∙ ap (made step.List) (items_again f s.0 s.1)
  part_again (Part.hash {ts = ts} {us = us} e f) p v =
      let s = rw (other-behind mark.OpenBrace mark.Star ts us refl e, other-behind mark.OpenBrace mark.OpenBracket ts us refl e, e) at (part_step v) in
      s.2 ∙ ap (made step.Hash) (members_again f s.0 s.1)
  part_again (Part.name {t = t} {ts = ts} {us = us} e f) p v =
      named_again f p (rw (name-behind mark.Star ts (t, us) e, name-behind mark.OpenBracket ts (t, us) e, name-behind mark.OpenBrace ts (t, us) e, e) at (part_step v))
  part_again (Part.quoted {t = t} {ts = ts} {us = us} e) p v =
      rw (quoted-behind mark.Star ts (t, us) e, quoted-behind mark.OpenBracket ts (t, us) e, quoted-behind mark.OpenBrace ts (t, us) e, quoted-name ts (t, us) e, e) at (part_step v)
  part_again (Part.nothing a b c d e) p v = rw (a, b, c, d, e) at (part_step v)

  named_again : {n : ℕ} {t : List ℕ} {ts : List Token} {o : Read (Step Expr)} → Named n t ts o → (p : Read (Step Expr)) → Named n t ts p → p ≡ o
  named_again (Named.field e) p v = rw e at (named_step v)
  named_again (Named.unknown e f) p v = rw (e, f) at (named_step v)
  named_again (Named.deep_call e f more) p v = let s = rw (e, f) at (named_step v) in s.1 more
  named_again (Named.call {f = g} {ts = ts} e f less args) p v =
      let s = rw (e, f) at (named_step v) in let r = s.0 less in r.2 ∙ ap (counted g (length ts + 1)) (arguments_again args r.0 r.1)

  enclosed_again : {m : Mark} {n : ℕ} {ts : List Token} {o : Read Expr} → Enclosed m n ts o → (p : Read Expr) → Enclosed m n ts p → p ≡ o
  enclosed_again (Enclosed.deep_bracket more) p v = let s = enclosed_step v in s.1 more
  enclosed_again (Enclosed.enclosed {m = m} less e) p v =
      let s = enclosed_step v in let r = s.0 less in r.2 ∙ ap (λ q. q >>= (λ x. closed m x.0 x.1)) (joined_again e r.0 r.1)

  items_again : {n : ℕ} {ts : List Token} {o : Read (List Expr)} → Items n ts o → (p : Read (List Expr)) → Items n ts p → p ≡ o
  items_again (Items.deep_list more) p v = let s = items_step v in s.1 more
  items_again (Items.items less es) p v = let s = items_step v in more_items_again es p (s.0 less)

  more_items_again : {n : ℕ} {es : List Expr} {ts : List Token} {o : Read (List Expr)} → MoreItems n es ts o → (p : Read (List Expr)) → MoreItems n es ts p → p ≡ o
  more_items_again (MoreItems.bad_item {n = n} {es = es} e) p v = let s = more_items_step v in subst (λ r. ItemEnd n es r p) (joined_again e s.0 s.1) s.2
  more_items_again (MoreItems.last_item {n = n} {es = es} e f) p v = let s = more_items_step v in rw f at (subst (λ r. ItemEnd n es r p) (joined_again e s.0 s.1) s.2)
  more_items_again (MoreItems.more_items {n = n} {es = es} e f g more) p v =
      let s = more_items_step v in more_items_again more p (rw (f, g) at (subst (λ r. ItemEnd n es r p) (joined_again e s.0 s.1) s.2))
  more_items_again (MoreItems.open_list {n = n} {es = es} e f g) p v = let s = more_items_step v in rw (f, g) at (subst (λ r. ItemEnd n es r p) (joined_again e s.0 s.1) s.2)

  members_again : {n : ℕ} {ts : List Token} {o : Read (List (Pair Expr))} → Members n ts o → (p : Read (List (Pair Expr))) → Members n ts p → p ≡ o
  members_again (Members.deep_hash more) p v = let s = members_step v in s.1 more
  members_again (Members.members less ms) p v = let s = members_step v in more_members_again ms p (s.0 less)

  more_members_again : {n : ℕ} {ps : List (Pair Expr)} {ts : List Token} {o : Read (List (Pair Expr))} → MoreMembers n ps ts o → (p : Read (List (Pair Expr))) → MoreMembers n ps ts p → p ≡ o
  more_members_again (MoreMembers.bad_key e) p v = rw e at (more_members_step v)
  more_members_again (MoreMembers.bad_member {n = n} {ps = ps} {k = k} e d) p v =
      let s = rw e at (more_members_step v) in subst (λ r. MemberEnd n ps k r p) (joined_again d s.0 s.1) s.2
  more_members_again (MoreMembers.last_member {n = n} {ps = ps} {k = k} e d f) p v =
      let s = rw e at (more_members_step v) in rw f at (subst (λ r. MemberEnd n ps k r p) (joined_again d s.0 s.1) s.2)
  more_members_again (MoreMembers.more_members {n = n} {ps = ps} {k = k} e d f g more) p v =
      let s = rw e at (more_members_step v) in more_members_again more p (rw (f, g) at (subst (λ r. MemberEnd n ps k r p) (joined_again d s.0 s.1) s.2))
  more_members_again (MoreMembers.open_hash {n = n} {ps = ps} {k = k} e d f g) p v =
      let s = rw e at (more_members_step v) in rw (f, g) at (subst (λ r. MemberEnd n ps k r p) (joined_again d s.0 s.1) s.2)

  arguments_again : {n : ℕ} {ts : List Token} {o : Read (List (Argument Expr))} → Arguments n ts o → (p : Read (List (Argument Expr))) → Arguments n ts p → p ≡ o
  arguments_again (Arguments.no_arguments e) p v = rw e at (arguments_step v)
  arguments_again (Arguments.arguments e args) p v = more_arguments_again args p (rw e at (arguments_step v))

  more_arguments_again : {n : ℕ} {args : List (Argument Expr)} {ts : List Token} {o : Read (List (Argument Expr))} → MoreArguments n args ts o → (p : Read (List (Argument Expr))) → MoreArguments n args ts p → p ≡ o
  more_arguments_again (MoreArguments.bad_argument {n = n} {args = args} a) p v = let s = more_arguments_step v in subst (λ r. ArgumentEnd n args r p) (argument_again a s.0 s.1) s.2
  more_arguments_again (MoreArguments.last_argument {n = n} {args = args} a f) p v = let s = more_arguments_step v in rw f at (subst (λ r. ArgumentEnd n args r p) (argument_again a s.0 s.1) s.2)
  more_arguments_again (MoreArguments.more_arguments {n = n} {args = args} a f g more) p v =
      let s = more_arguments_step v in more_arguments_again more p (rw (f, g) at (subst (λ r. ArgumentEnd n args r p) (argument_again a s.0 s.1) s.2))
  more_arguments_again (MoreArguments.open_call {n = n} {args = args} a f g) p v = let s = more_arguments_step v in rw (f, g) at (subst (λ r. ArgumentEnd n args r p) (argument_again a s.0 s.1) s.2)

  argument_again : {n : ℕ} {ts : List Token} {o : Read (Argument Expr)} → ArgumentAt n ts o → (p : Read (Argument Expr)) → ArgumentAt n ts p → p ≡ o
  argument_again (ArgumentAt.expref e f) p v = let s = rw e at (argument_step v) in s.2 ∙ ap (made argument.Expref) (joined_again f s.0 s.1)
  argument_again (ArgumentAt.value e f) p v = let s = rw e at (argument_step v) in s.2 ∙ ap (made argument.Value) (joined_again f s.0 s.1)
