-- What is behind a part, or left at its fault, is no longer than the part's tokens.
use Rattle.std.specs.Prelude.{nat_lt}
use Rattle.std.proofs.Common.{◌≡◌, ◌==◌, ℕ, ◌+◌, ◌<◌, ◌≤◌, true, false, if◌then◌else◌, List, [], ◌∷◌, length, Option, Some, None, Result, Ok, Err, refl, subst, arith}
use Rattle.texts.specs.declared.pairs.Pair.{Pair}
use Rattle.jmes_syntax.specs.declared.chains.Link.{Link}
use Rattle.jmes_syntax.specs.declared.chains.Link.TheVariants as link
use Rattle.jmes_syntax.specs.declared.expr.Argument.{Argument}
use Rattle.jmes_syntax.specs.declared.expr.Chain.{Chain}
use Rattle.jmes_syntax.specs.declared.expr.Compared.{Compared}
use Rattle.jmes_syntax.specs.declared.expr.Expr.{Expr}
use Rattle.jmes_syntax.specs.declared.expr.Operand.{Operand}
use Rattle.jmes_syntax.specs.declared.expr.Step.{Step}
use Rattle.jmes_syntax.specs.declared.expr.Step.TheVariants as step
use Rattle.jmes_syntax.specs.declared.function.Function.{Function}
use Rattle.jmes_syntax.specs.declared.reader.Level.{Level}
use Rattle.jmes_syntax.specs.declared.stop.Stop.{Stop}
use Rattle.jmes_syntax.specs.declared.stop.Stop.TheVariants.{Syntax, Arity}
use Rattle.jmes_syntax.specs.declared.token.Mark.{Mark}
use Rattle.jmes_syntax.specs.declared.token.Mark.TheVariants as mark
use Rattle.jmes_syntax.specs.declared.token.Token.{Token}
use Rattle.jmes_syntax.specs.declared.token.Token.TheVariants as token
use Rattle.jmes_syntax.specs.declared.whole.Whole.{Whole}
use Rattle.jmes_syntax.specs.Brackets.{closed, step_of, slice, step_at, stop_at, slice_at, only_number, start_at, star_at, index_at, begins_index, where_index, behind_index}
use Rattle.jmes_syntax.specs.Functions.{arity_of}
use Rattle.jmes_syntax.specs.Reading.{Read, made, followed, or_else, left_of}
use Rattle.texts.specs.Calls.{◌>>=◌}
use Rattle.jmes_syntax.specs.Scan.{comparator_at, negations_at, counted, any_name_at, before_colon, key_at, opened, index_in, flatten_in, Linking, linking, Joined, Side, Sides, Comparison, Comparisons, OperandAt, ChainAt, Links, LinkAt, First, Part, Named, Enclosed, Items, MoreItems, Members, MoreMembers, Arguments, MoreArguments, ArgumentAt}
use Rattle.jmes_syntax.specs.Trees.{comparator_of, takes}
use Rattle.jmes_syntax.specs.Tokens.{is_mark, behind, or_syntax, past, number_at, name_at, quoted_at, literal_at}

-- at most so many tokens are left behind it, and so many at its fault
abbrev pub Leaves : {A : Type 0} → ℕ → ℕ → Read A → Type 0
Leaves n m (Ok x) = length x.1 ≤ n
Leaves n m (Err stop) = left_of stop ≤ m

abbrev pub Within : {A : Type 0} → List Token → Read A → Type 0
Within ts o = Leaves (length ts) (length ts) o

-- the same behind a token at which the fault may be
abbrev pub Behind : {A : Type 0} → List Token → Read A → Type 0
Behind ts o = Leaves (length ts) (length ts + 1) o

pub wider : {A : Type 0} (n m k l : ℕ) (o : Read A) → n ≤ k → m ≤ l → Leaves n m o → Leaves k l o
wider n m k l (Ok x) le more h = omega arith
wider n m k l (Err stop) le more h = omega arith

pub made-leaves : {A B : Type 0} (f : A → B) (n m : ℕ) (o : Read A) → Leaves n m o → Leaves n m (made f o)
made-leaves f n m (Ok x) h = h
made-leaves f n m (Err stop) h = h

pub behind-lt : (m : Mark) (ts us : List Token) → behind m ts ≡ Some us → length us < length ts
behind-lt m [] us e = absurd cc
behind-lt m (t ∷ ts) us e =
    elim (is_mark m t) as (λ v. (if v then Some ts else None) ≡ Some us → length us < length (t ∷ ts))
    [ true ↦ (λ f. let same : ts ≡ us = cc in subst (λ vs. length vs < length (t ∷ ts)) same (omega arith)) | false ↦ (λ f. absurd cc) ] e

-- what was found is shorter
abbrev pub IsShorter : {A : Type 0} → List Token → Option (A × List Token) → Type 0
IsShorter ts None = Unit {0}
IsShorter ts (Some x) = length x.1 < length ts

pub shorter-at : {A : Type 0} (ts : List Token) (o : Option (A × List Token)) (x : A) (us : List Token) → IsShorter ts o → o ≡ Some (x, us) → length us < length ts
shorter-at ts None x us h e = absurd cc
shorter-at ts (Some y) x us h e = let same : y.1 ≡ us = cc in subst (λ vs. length vs < length ts) same h

pub name_at-shorter : (ts : List Token) → IsShorter ts (name_at ts)
name_at-shorter [] = tt
name_at-shorter (token.Name t ∷ ts) = omega arith
name_at-shorter (token.Mark m ∷ ts) = tt
name_at-shorter (token.Quoted t ∷ ts) = tt
name_at-shorter (token.Number k ∷ ts) = tt
name_at-shorter (token.Literal d ∷ ts) = tt

pub quoted_at-shorter : (ts : List Token) → IsShorter ts (quoted_at ts)
quoted_at-shorter [] = tt
quoted_at-shorter (token.Quoted t ∷ ts) = omega arith
quoted_at-shorter (token.Mark m ∷ ts) = tt
quoted_at-shorter (token.Name t ∷ ts) = tt
quoted_at-shorter (token.Number k ∷ ts) = tt
quoted_at-shorter (token.Literal d ∷ ts) = tt

pub literal_at-shorter : (ts : List Token) → IsShorter ts (literal_at ts)
literal_at-shorter [] = tt
literal_at-shorter (token.Literal d ∷ ts) = omega arith
literal_at-shorter (token.Mark m ∷ ts) = tt
literal_at-shorter (token.Name t ∷ ts) = tt
literal_at-shorter (token.Number k ∷ ts) = tt
literal_at-shorter (token.Quoted t ∷ ts) = tt

or_else-shorter : {A : Type 0} (ts : List Token) (o p : Option (A × List Token)) → IsShorter ts o → IsShorter ts p → IsShorter ts (or_else o p)
or_else-shorter ts None p h k = k
or_else-shorter ts (Some x) p h k = h

followed-shorter : {A : Type 0} (t : Token) (ts : List Token) (o : Option A) → IsShorter (t ∷ ts) (followed o ts)
followed-shorter t ts None = tt
followed-shorter t ts (Some x) = omega arith

pub comparator_at-shorter : (ts : List Token) → IsShorter ts (comparator_at ts)
comparator_at-shorter [] = tt
comparator_at-shorter (token.Mark m ∷ ts) = followed-shorter (token.Mark m) ts (comparator_of m)
comparator_at-shorter (token.Quoted t ∷ ts) = tt
comparator_at-shorter (token.Name t ∷ ts) = tt
comparator_at-shorter (token.Number k ∷ ts) = tt
comparator_at-shorter (token.Literal d ∷ ts) = tt

any_name_at-shorter : (ts : List Token) → IsShorter ts (any_name_at ts)
any_name_at-shorter ts = or_else-shorter ts (name_at ts) (quoted_at ts) (name_at-shorter ts) (quoted_at-shorter ts)

pub number_at-le : (ts : List Token) → length (number_at ts).1 ≤ length ts
number_at-le [] = omega arith
number_at-le (token.Number k ∷ ts) = omega arith
number_at-le (token.Mark m ∷ ts) = omega arith
number_at-le (token.Name t ∷ ts) = omega arith
number_at-le (token.Quoted t ∷ ts) = omega arith
number_at-le (token.Literal d ∷ ts) = omega arith

pub negations_at-le : (ts : List Token) → length (negations_at ts).1 ≤ length ts
negations_at-le [] = omega arith
negations_at-le (t ∷ ts) =
    elim (is_mark mark.Not t) as (λ v. let x : ℕ × List Token = (if v then ((negations_at ts).0 + 1, (negations_at ts).1) else (0, t ∷ ts)) in length x.1 ≤ length (t ∷ ts))
    [ true ↦ omega (arith, negations_at-le ts) | false ↦ omega arith ]

-- what is due in front
abbrev pub Passes : List Token → Result (List Token) Stop → Type 0
Passes ts (Ok us) = length us < length ts
Passes ts (Err stop) = left_of stop ≤ length ts

or_syntax-passes : (ts : List Token) (o : Option (List Token)) → ((us : List Token) → o ≡ Some us → length us < length ts) → Passes ts (or_syntax ts o)
or_syntax-passes ts None h = omega arith
or_syntax-passes ts (Some us) h = h us refl

pub past-passes : (m : Mark) (ts : List Token) → Passes ts (past m ts)
past-passes m ts = or_syntax-passes ts (behind m ts) (behind-lt m ts)

pub past-lt : (m : Mark) (ts us : List Token) → past m ts ≡ Ok us → length us < length ts
past-lt m ts us e = subst (Passes ts) e (past-passes m ts)

pub past-stop : (m : Mark) (ts : List Token) (s : Stop) → past m ts ≡ Err s → left_of s ≤ length ts
past-stop m ts s e = subst (Passes ts) e (past-passes m ts)

bind-within : {A : Type 0} (x : A) (ts : List Token) (r : Result (List Token) Stop) → Passes ts r → Within ts (r >>= (λ us. Ok (x, us)))
bind-within x ts (Ok us) h = omega arith
bind-within x ts (Err stop) h = h

pub closed-within : {A : Type 0} (m : Mark) (x : A) (ts : List Token) → Within ts (closed m x ts)
closed-within m x ts = bind-within x ts (past m ts) (past-passes m ts)

closed-wider : {A : Type 0} (m : Mark) (x : A) (ts us : List Token) → length us ≤ length ts → Within ts (closed m x us)
closed-wider m x ts us le = wider (length us) (length us) (length ts) (length ts) (closed m x us) le le (closed-within m x us)

step_at-within : (start stop : Option Whole) (ts : List Token) → Within ts (step_at start stop ts)
step_at-within start stop ts =
    elim ((step_of (number_at ts).0).magnitude == 0) as (λ v. Within ts (if v then Err (Syntax (length ts)) else closed mark.CloseBracket (slice start stop (step_of (number_at ts).0)) (number_at ts).1))
    [ true ↦ omega arith | false ↦ closed-wider mark.CloseBracket (slice start stop (step_of (number_at ts).0)) ts (number_at ts).1 (number_at-le ts) ]

stop_at-within : (start stop : Option Whole) (ts : List Token) (o : Option (List Token)) → ((us : List Token) → o ≡ Some us → length us < length ts) → Within ts (stop_at start stop ts o)
stop_at-within start stop ts None h = closed-within mark.CloseBracket (slice start stop (step_of None)) ts
stop_at-within start stop ts (Some us) h =
    let less = h us refl in
    wider (length us) (length us) (length ts) (length ts) (step_at start stop us) (omega arith) (omega arith) (step_at-within start stop us)

slice_at-within : (start : Option Whole) (ts : List Token) → Within ts (slice_at start ts)
slice_at-within start ts =
    let stop = number_at ts in
    let le = number_at-le ts in
    wider (length stop.1) (length stop.1) (length ts) (length ts) (slice_at start ts) le le (stop_at-within start stop.0 stop.1 (behind mark.Colon stop.1) (behind-lt mark.Colon stop.1))

only_number-within : (ts : List Token) (o : Option Whole) (us : List Token) → length us ≤ length ts → Within ts (only_number ts o us)
only_number-within ts None us le = omega arith
only_number-within ts (Some n) us le = closed-wider mark.CloseBracket (step.Index n) ts us le

start_at-within : (ts : List Token) (start : Option Whole) (us : List Token) (o : Option (List Token)) → length us ≤ length ts → ((vs : List Token) → o ≡ Some vs → length vs < length us) → Within ts (start_at ts start us o)
start_at-within ts start us None le h = only_number-within ts start us le
start_at-within ts start us (Some vs) le h =
    let less = h vs refl in
    wider (length vs) (length vs) (length ts) (length ts) (slice_at start vs) (omega arith) (omega arith) (slice_at-within start vs)

star_at-within : (ts : List Token) (o : Option (List Token)) → ((us : List Token) → o ≡ Some us → length us < length ts) → Within ts (star_at ts o)
star_at-within ts (Some us) h = let less = h us refl in closed-wider mark.CloseBracket step.Elements ts us (omega arith)
star_at-within ts None h =
    let start = number_at ts in
    start_at-within ts start.0 start.1 (behind mark.Colon start.1) (number_at-le ts) (behind-lt mark.Colon start.1)

pub index_at-within : (ts : List Token) → Within ts (index_at ts)
index_at-within ts = star_at-within ts (behind mark.Star ts) (behind-lt mark.Star ts)

where_index-lt : (ts : List Token) (o : Option (List Token)) (us : List Token) → ((vs : List Token) → o ≡ Some vs → length vs < length ts) → where_index o ≡ Some us → length us < length ts
where_index-lt ts None us h e = absurd cc
where_index-lt ts (Some vs) us h e =
    elim (begins_index vs) as (λ v. (if v then Some vs else None) ≡ Some us → length us < length ts)
    [ true ↦ (λ f. let same : vs ≡ us = cc in subst (λ ws. length ws < length ts) same (h vs refl)) | false ↦ (λ f. absurd cc) ] e

pub behind_index-lt : (ts us : List Token) → behind_index ts ≡ Some us → length us < length ts
behind_index-lt ts us e = where_index-lt ts (behind mark.OpenBracket ts) us (behind-lt mark.OpenBracket ts) e

before_colon-within : (ts : List Token) (o : Option (List ℕ × List Token)) → IsShorter ts o → Within ts (before_colon ts o)
before_colon-within ts None h = omega arith
before_colon-within ts (Some key) h = closed-wider mark.Colon key.0 ts key.1 (omega arith)

key_at-within : (ts : List Token) → Within ts (key_at ts)
key_at-within ts = before_colon-within ts (any_name_at ts) (any_name_at-shorter ts)

pub key_at-le : (ts : List Token) (k : List ℕ) (us : List Token) → key_at ts ≡ Ok (k, us) → length us ≤ length ts
key_at-le ts k us e = subst (Within ts) e (key_at-within ts)

pub key_at-stop : (ts : List Token) (s : Stop) → key_at ts ≡ Err s → left_of s ≤ length ts
key_at-stop ts s e = subst (Within ts) e (key_at-within ts)

counted-behind : (f : Function) (ts : List Token) (o : Read (List (Argument Expr))) → Within ts o → Behind ts (counted f (length ts + 1) o)
counted-behind f ts (Err stop) h = omega arith
counted-behind f ts (Ok x) h =
    elim (takes (arity_of f) (length x.0)) as (λ v. Behind ts (if v then Ok (step.Call f x.0, x.1) else Err (Arity (length ts + 1))))
    [ true ↦ h | false ↦ omega arith ]

-- a link is shorter
abbrev pub LinkWithin : List Token → Linking → Type 0
LinkWithin ts (Ok o) = IsShorter ts o
LinkWithin ts (Err stop) = left_of stop ≤ length ts

linking-within : {A : Type 0} (f : A → Link) (ts us : List Token) (o : Read A) → length us < length ts → Behind us o → LinkWithin ts (linking f o)
linking-within f ts us (Ok x) less h = omega arith
linking-within f ts us (Err stop) less h = omega arith

narrow : {A : Type 0} (us : List Token) (o : Read A) → Within us o → Behind us o
narrow us o h = wider (length us) (length us) (length us) (length us + 1) o (omega arith) (omega arith) h

-- what stands behind the mark that opens a bracket
opened-behind : {A : Type 0} (n : ℕ) (us : List Token) (o : Read A) → Within us o → Behind us (opened n us o)
opened-behind n us o h = elim (nat_lt n 100) as (λ v. Behind us (if v then o else Err (Syntax (length us + 1)))) [ true ↦ narrow us o h | false ↦ omega arith ]

index_in-behind : (n : ℕ) (us : List Token) → Behind us (index_in n us)
index_in-behind n us = opened-behind n us (index_at us) (index_at-within us)

flatten_in-behind : (n : ℕ) (us : List Token) → Behind us (flatten_in n us)
flatten_in-behind n us = opened-behind n us (Ok (link.Flatten, us)) (omega arith)

-- what stands behind a mark
marked : {A : Type 0} (ts us : List Token) (o : Read A) → length us < length ts → Behind us o → Within ts o
marked ts us o less h = wider (length us) (length us + 1) (length ts) (length ts) o (omega arith) (omega arith) h

closing : {A : Type 0} (m : Mark) (ts : List Token) (o : Read A) → Within ts o → Behind ts (o >>= (λ x. closed m x.0 x.1))
closing m ts (Ok x) h = wider (length x.1) (length x.1) (length ts) (length ts + 1) (closed m x.0 x.1) h (omega arith) (closed-within m x.0 x.1)
closing m ts (Err stop) h = omega arith

behind_more : {A : Type 0} (ts us vs : List Token) (o : Read A) → length us ≤ length ts → length vs < length us → Within vs o → Within ts o
behind_more ts us vs o le less h = wider (length vs) (length vs) (length ts) (length ts) o (omega arith) (omega arith) h

mutual
  pub joined-within : {l : Level} {n : ℕ} {ts : List Token} {o : Read Expr} → Joined l n ts o → Within ts o
  joined-within (Joined.sides {l = l} {ts = ts} {o = o} es) = made-leaves _ (length ts) (length ts) o (sides-within es)

  pub side-within : {l : Level} {n : ℕ} {ts : List Token} {o : Read Expr} → Side l n ts o → Within ts o
  side-within (Side.pipe_side e) = joined-within e
  side-within (Side.or_side e) = joined-within e
  side-within (Side.and_side e) = comparison-within e

  sides-within : {l : Level} {n : ℕ} {es : List Expr} {ts : List Token} {o : Read (List Expr)} → Sides l n es ts o → Within ts o
  sides-within (Sides.bad_side e) = side-within e
  sides-within (Sides.last_side e f) = side-within e
  sides-within (Sides.more_sides {ts = ts} {us = us} {rest = rest} {o = o} e f es) = behind_more ts us rest o (side-within e) (behind-lt _ us rest f) (sides-within es)

  pub comparison-within : {n : ℕ} {ts : List Token} {o : Read Expr} → Comparison n ts o → Within ts o
  comparison-within (Comparison.bad_first a) = operand-within a
  comparison-within (Comparison.compared_with {ts = ts} {us = us} {o = o} a cs) =
      made-leaves _ (length ts) (length ts) o (wider (length us) (length us) (length ts) (length ts) o (operand-within a) (operand-within a) (comparisons-within cs))

  pub comparisons-within : {n : ℕ} {cs : List (Compared Expr)} {ts : List Token} {o : Read (List (Compared Expr))} → Comparisons n cs ts o → Within ts o
  comparisons-within (Comparisons.no_comparator e) = omega arith
  comparisons-within (Comparisons.bad_right {ts = ts} {us = us} {c = c} e a) = omega (arith, operand-within a, shorter-at ts (comparator_at ts) c us (comparator_at-shorter ts) e)
  comparisons-within (Comparisons.more_compared {ts = ts} {us = us} {vs = vs} {c = c} {o = o} e a cs) =
      let less = shorter-at ts (comparator_at ts) c us (comparator_at-shorter ts) e in
      let le = operand-within a in
      wider (length vs) (length vs) (length ts) (length ts) o (omega arith) (omega arith) (comparisons-within cs)

  pub operand-within : {n : ℕ} {ts : List Token} {o : Read (Operand Expr)} → OperandAt n ts o → Within ts o
  operand-within (OperandAt.negated {ts = ts} {o = o} c) =
      let le = negations_at-le ts in
      made-leaves _ (length ts) (length ts) o (wider (length (negations_at ts).1) (length (negations_at ts).1) (length ts) (length ts) o le le (chain-within c))

  pub chain-within : {n : ℕ} {ts : List Token} {o : Read (Chain Expr)} → ChainAt n ts o → Within ts o
  chain-within (ChainAt.bad_start k) = first-within k
  chain-within (ChainAt.started {ts = ts} {us = us} {o = o} k ks) = wider (length us) (length us) (length ts) (length ts) o (first-within k) (first-within k) (links-within ks)

  pub links-within : {n : ℕ} {c : Chain Expr} {ts : List Token} {o : Read (Chain Expr)} → Links n c ts o → Within ts o
  links-within (Links.no_link k) = omega arith
  links-within (Links.bad_link k) = link-within k
  links-within (Links.more_links {ts = ts} {us = us} {o = o} k ks) =
      let less = link-within k in
      wider (length us) (length us) (length ts) (length ts) o (omega arith) (omega arith) (links-within ks)

  pub link-within : {n : ℕ} {ts : List Token} {o : Linking} → LinkAt n ts o → LinkWithin ts o
  link-within (LinkAt.dot {ts = ts} {us = us} {o = o} e p) = linking-within _ ts us o (behind-lt mark.Dot ts us e) (narrow us o (part-within p))
  link-within (LinkAt.index {n = n} {ts = ts} {us = us} e) = linking-within _ ts us (index_in n us) (behind-lt mark.OpenBracket ts us e) (index_in-behind n us)
  link-within (LinkAt.filter {ts = ts} {us = us} {o = o} e f) = linking-within _ ts us o (behind-lt mark.OpenFilter ts us e) (enclosed-behind f)
  link-within (LinkAt.flatten {n = n} {ts = ts} {us = us} e) = linking-within _ ts us (flatten_in n us) (behind-lt mark.Flatten ts us e) (flatten_in-behind n us)
  link-within (LinkAt.chain_ends d b f g) = tt

  pub first-within : {n : ℕ} {ts : List Token} {o : Read Link} → First n ts o → Within ts o
  first-within (First.group {ts = ts} {us = us} {o = o} e f) = made-leaves _ (length ts) (length ts) o (marked ts us o (behind-lt mark.OpenGroup ts us e) (enclosed-behind f))
  first-within (First.first_filter {ts = ts} {us = us} {o = o} e f) = made-leaves _ (length ts) (length ts) o (marked ts us o (behind-lt mark.OpenFilter ts us e) (enclosed-behind f))
  first-within (First.first_index {n = n} {ts = ts} {us = us} e) = made-leaves _ (length ts) (length ts) (index_in n us) (marked ts us (index_in n us) (behind_index-lt ts us e) (index_in-behind n us))
  first-within (First.first_flatten {n = n} {ts = ts} {us = us} e) = marked ts us (flatten_in n us) (behind-lt mark.Flatten ts us e) (flatten_in-behind n us)
  first-within (First.current {ts = ts} {us = us} e) = omega (arith, behind-lt mark.Current ts us e)
  first-within (First.literal {ts = ts} {us = us} {d = d} e) = omega (arith, shorter-at ts (literal_at ts) d us (literal_at-shorter ts) e)
  first-within (First.part {ts = ts} {o = o} a b c d e f p) = made-leaves _ (length ts) (length ts) o (part-within p)

  pub part-within : {n : ℕ} {ts : List Token} {o : Read (Step Expr)} → Part n ts o → Within ts o
  part-within (Part.values {ts = ts} {us = us} e) = omega (arith, behind-lt mark.Star ts us e)
  part-within (Part.list {ts = ts} {us = us} {o = o} e f) = made-leaves _ (length ts) (length ts) o (marked ts us o (behind-lt mark.OpenBracket ts us e) (items-behind f))
  part-within (Part.hash {ts = ts} {us = us} {o = o} e f) = made-leaves _ (length ts) (length ts) o (marked ts us o (behind-lt mark.OpenBrace ts us e) (members-behind f))
  part-within (Part.name {t = t} {ts = ts} {us = us} {o = o} e f) = marked ts us o (shorter-at ts (name_at ts) t us (name_at-shorter ts) e) (named-behind f)
  part-within (Part.quoted {t = t} {ts = ts} {us = us} e) = omega (arith, shorter-at ts (quoted_at ts) t us (quoted_at-shorter ts) e)
  part-within (Part.nothing a b c d e) = omega arith

  pub named-behind : {n : ℕ} {t : List ℕ} {ts : List Token} {o : Read (Step Expr)} → Named n t ts o → Behind ts o
  named-behind (Named.field e) = omega arith
  named-behind (Named.unknown e f) = omega arith
  named-behind (Named.deep_call e f more) = omega arith
  named-behind (Named.call {f = f} {ts = ts} {us = us} {o = o} e g less args) =
      let short = behind-lt mark.OpenGroup ts us e in
      counted-behind f ts o (wider (length us) (length us) (length ts) (length ts) o (omega arith) (omega arith) (arguments-within args))

  pub enclosed-behind : {m : Mark} {n : ℕ} {ts : List Token} {o : Read Expr} → Enclosed m n ts o → Behind ts o
  enclosed-behind (Enclosed.deep_bracket more) = omega arith
  enclosed-behind (Enclosed.enclosed {m = m} {ts = ts} {o = o} less e) = closing m ts o (joined-within e)

  pub items-behind : {n : ℕ} {ts : List Token} {o : Read (List Expr)} → Items n ts o → Behind ts o
  items-behind (Items.deep_list more) = omega arith
  items-behind (Items.items {ts = ts} {o = o} less es) = narrow ts o (more_items-within es)

  pub more_items-within : {n : ℕ} {es : List Expr} {ts : List Token} {o : Read (List Expr)} → MoreItems n es ts o → Within ts o
  more_items-within (MoreItems.bad_item e) = joined-within e
  more_items-within (MoreItems.last_item {us = us} {rest = rest} e f) = omega (arith, joined-within e, behind-lt mark.CloseBracket us rest f)
  more_items-within (MoreItems.more_items {ts = ts} {us = us} {rest = rest} {o = o} e f g es) = behind_more ts us rest o (joined-within e) (past-lt mark.Comma us rest g) (more_items-within es)
  more_items-within (MoreItems.open_list {us = us} {s = s} e f g) = omega (arith, joined-within e, past-stop mark.Comma us s g)

  pub members-behind : {n : ℕ} {ts : List Token} {o : Read (List (Pair Expr))} → Members n ts o → Behind ts o
  members-behind (Members.deep_hash more) = omega arith
  members-behind (Members.members {ts = ts} {o = o} less ms) = narrow ts o (more_members-within ms)

  pub more_members-within : {n : ℕ} {ps : List (Pair Expr)} {ts : List Token} {o : Read (List (Pair Expr))} → MoreMembers n ps ts o → Within ts o
  more_members-within (MoreMembers.bad_key {ts = ts} {s = s} e) = key_at-stop ts s e
  more_members-within (MoreMembers.bad_member {k = k} {ts = ts} {us = us} e v) = omega (arith, key_at-le ts k us e, joined-within v)
  more_members-within (MoreMembers.last_member {k = k} {ts = ts} {us = us} {vs = vs} {rest = rest} e v f) = omega (arith, key_at-le ts k us e, joined-within v, behind-lt mark.CloseBrace vs rest f)
  more_members-within (MoreMembers.more_members {k = k} {ts = ts} {us = us} {vs = vs} {rest = rest} {o = o} e v f g ms) =
      let le = key_at-le ts k us e in
      let less = joined-within v in
      behind_more ts vs rest o (omega arith) (past-lt mark.Comma vs rest g) (more_members-within ms)
  more_members-within (MoreMembers.open_hash {k = k} {ts = ts} {us = us} {vs = vs} {s = s} e v f g) = omega (arith, key_at-le ts k us e, joined-within v, past-stop mark.Comma vs s g)

  pub arguments-within : {n : ℕ} {ts : List Token} {o : Read (List (Argument Expr))} → Arguments n ts o → Within ts o
  arguments-within (Arguments.no_arguments {ts = ts} {rest = rest} e) = omega (arith, behind-lt mark.CloseGroup ts rest e)
  arguments-within (Arguments.arguments e args) = more_arguments-within args

  pub more_arguments-within : {n : ℕ} {args : List (Argument Expr)} {ts : List Token} {o : Read (List (Argument Expr))} → MoreArguments n args ts o → Within ts o
  more_arguments-within (MoreArguments.bad_argument a) = argument-within a
  more_arguments-within (MoreArguments.last_argument {us = us} {rest = rest} a f) = omega (arith, argument-within a, behind-lt mark.CloseGroup us rest f)
  more_arguments-within (MoreArguments.more_arguments {ts = ts} {us = us} {rest = rest} {o = o} a f g args) = behind_more ts us rest o (argument-within a) (past-lt mark.Comma us rest g) (more_arguments-within args)
  more_arguments-within (MoreArguments.open_call {us = us} {s = s} a f g) = omega (arith, argument-within a, past-stop mark.Comma us s g)

  pub argument-within : {n : ℕ} {ts : List Token} {o : Read (Argument Expr)} → ArgumentAt n ts o → Within ts o
  argument-within (ArgumentAt.expref {ts = ts} {us = us} {o = o} e f) = made-leaves _ (length ts) (length ts) o (marked ts us o (behind-lt mark.Expref ts us e) (narrow us o (joined-within f)))
  argument-within (ArgumentAt.value {ts = ts} {o = o} e f) = made-leaves _ (length ts) (length ts) o (joined-within f)
