-- What reading from the left gives is in the grammar.
use Rattle.std.proofs.Common.{◌≡◌, ◌==◌, ℕ, ◌+◌, ◌<◌, true, false, if◌then◌else◌, List, [], ◌∷◌, ◌++◌, length, Option, Some, None, Ok, Err, refl, sym, ap, subst, ◌∙◌, append_assoc, append-nil, arith}
use Rattle.std.proofs.lemmas.Bool.{eqb-false, ltb-true}
use Rattle.std.proofs.lemmas.Result.{IfOk-weaker, IfOk-at_ok}
use Rattle.std.specs.Prelude.{IfOk, nat_lt}
use Rattle.json_doc.specs.declared.doc.Doc.{Doc}
use Rattle.texts.specs.declared.pairs.Pair.{Pair}
use Rattle.jmes_syntax.specs.declared.chains.Link.{Link}
use Rattle.jmes_syntax.specs.declared.chains.Link.TheVariants as link
use Rattle.jmes_syntax.specs.declared.expr.Argument.{Argument}
use Rattle.jmes_syntax.specs.declared.expr.Argument.TheVariants as argument
use Rattle.jmes_syntax.specs.declared.expr.Chain.{Chain}
use Rattle.jmes_syntax.specs.declared.expr.Comparator.{Comparator}
use Rattle.jmes_syntax.specs.declared.expr.Compared.{Compared}
use Rattle.jmes_syntax.specs.declared.expr.Expr.{Expr}
use Rattle.jmes_syntax.specs.declared.expr.Operand.{Operand}
use Rattle.jmes_syntax.specs.declared.expr.Step.{Step}
use Rattle.jmes_syntax.specs.declared.expr.Step.TheVariants as step
use Rattle.jmes_syntax.specs.declared.function.Function.{Function}
use Rattle.jmes_syntax.specs.declared.reader.Level.{Level}
use Rattle.jmes_syntax.specs.declared.reader.Level.TheVariants as level
use Rattle.jmes_syntax.specs.declared.stop.Stop.TheVariants.{Syntax, Arity}
use Rattle.jmes_syntax.specs.declared.token.Mark.{Mark}
use Rattle.jmes_syntax.specs.declared.token.Mark.TheVariants as mark
use Rattle.jmes_syntax.specs.declared.token.Token.{Token}
use Rattle.jmes_syntax.specs.declared.token.Token.TheVariants as token
use Rattle.jmes_syntax.specs.declared.whole.Whole.{Whole}
use Rattle.jmes_syntax.specs.Brackets.{closed, step_of, slice, step_at, stop_at, slice_at, only_number, start_at, star_at, index_at, behind_index}
use Rattle.jmes_syntax.specs.Chains.{linked, empty_chain, with_links}
use Rattle.jmes_syntax.specs.Functions.{name_of, arity_of}
use Rattle.jmes_syntax.specs.Grammar.{optional, BeginsWithElements}
use Rattle.jmes_syntax.specs.Grammar as g
use Rattle.jmes_syntax.specs.Reading.{Read, made, followed}
use Rattle.texts.specs.Calls.{◌>>=◌}
use Rattle.jmes_syntax.specs.Scan.{comparator_at, negations_at, counted, before_colon, key_at, opened, index_in, flatten_in, Linking, linking, Joined, Side, Sides, Comparison, Comparisons, OperandAt, ChainAt, Links, LinkAt, First, Part, Named, Enclosed, Items, MoreItems, Members, MoreMembers, Arguments, MoreArguments, ArgumentAt}
use Rattle.jmes_syntax.specs.Tokens.{is_mark, behind, or_syntax, past, number_at, name_at, quoted_at, literal_at}
use Rattle.jmes_syntax.specs.Trees.{mark_of, one_of, comparison, comparator_of, takes, member, compared, operand}
use Rattle.jmes_syntax.proofs.Fronts.{same-mark, behind_index-bracket}
use Rattle.jmes_syntax.proofs.NamedFunctions.{name_found}

-- What stands in front.

some_same : {A : Type 0} (x y : A) → Some x ≡ Some y → x ≡ y
some_same x y e = cc

mark-is : (m : Mark) (t : Token) → is_mark m t ≡ true → t ≡ token.Mark m
mark-is m (token.Mark k) e = ap token.Mark (same-mark k m e)
mark-is m (token.Name t) e = absurd cc
mark-is m (token.Quoted t) e = absurd cc
mark-is m (token.Number k) e = absurd cc
mark-is m (token.Literal d) e = absurd cc

pub behind-is : (m : Mark) (ts us : List Token) → behind m ts ≡ Some us → ts ≡ token.Mark m ∷ us
behind-is m [] us e = absurd cc
behind-is m (t ∷ ts) us e =
    elim (is_mark m t) as (λ v. is_mark m t ≡ v → (if v then Some ts else None) ≡ Some us → t ∷ ts ≡ token.Mark m ∷ us)
    [ true ↦ (λ f h. let same : ts ≡ us = cc in rw (mark-is m t f, same) refl) | false ↦ (λ f h. absurd cc) ] refl e

past-is : (m : Mark) (ts : List Token) (o : Option (List Token)) → behind m ts ≡ o → IfOk (or_syntax ts o) (λ us. ts ≡ token.Mark m ∷ us)
past-is m ts None e = tt
past-is m ts (Some us) e = behind-is m ts us e

past-at : (m : Mark) (ts us : List Token) → past m ts ≡ Ok us → ts ≡ token.Mark m ∷ us
past-at m ts us e = IfOk-at_ok (λ vs. ts ≡ token.Mark m ∷ vs) e (past-is m ts (behind m ts) refl)

-- a value before a mark
before : {A : Type 0} (m : Mark) (x : A) (ts : List Token) (P : A × List Token → Type 0) → ((us : List Token) → ts ≡ token.Mark m ∷ us → P (x, us)) → IfOk (closed m x ts) P
before m x ts P f =
    elim (behind m ts) as (λ o. behind m ts ≡ o → IfOk (or_syntax ts o >>= (λ us. Ok (x, us))) P) [ None ↦ (λ e. tt) | Some us ↦ (λ e. f us (behind-is m ts us e)) ] refl

number-is : (ts : List Token) → ts ≡ optional (number_at ts).0 ++ (number_at ts).1
number-is [] = refl
number-is (token.Number k ∷ ts) = refl
number-is (token.Mark m ∷ ts) = refl
number-is (token.Name t ∷ ts) = refl
number-is (token.Quoted t ∷ ts) = refl
number-is (token.Literal d ∷ ts) = refl

name-is : (ts : List Token) (t : List ℕ) (us : List Token) → name_at ts ≡ Some (t, us) → ts ≡ token.Name t ∷ us
name-is [] t us e = absurd cc
name-is (token.Name s ∷ ts) t us e = ap (λ x. token.Name x.0 ∷ x.1) (some_same {A = List ℕ × List Token} (s, ts) (t, us) e)
name-is (token.Mark m ∷ ts) t us e = absurd cc
name-is (token.Quoted s ∷ ts) t us e = absurd cc
name-is (token.Number k ∷ ts) t us e = absurd cc
name-is (token.Literal d ∷ ts) t us e = absurd cc

quoted-is : (ts : List Token) (t : List ℕ) (us : List Token) → quoted_at ts ≡ Some (t, us) → ts ≡ token.Quoted t ∷ us
quoted-is [] t us e = absurd cc
quoted-is (token.Quoted s ∷ ts) t us e = ap (λ x. token.Quoted x.0 ∷ x.1) (some_same {A = List ℕ × List Token} (s, ts) (t, us) e)
quoted-is (token.Mark m ∷ ts) t us e = absurd cc
quoted-is (token.Name s ∷ ts) t us e = absurd cc
quoted-is (token.Number k ∷ ts) t us e = absurd cc
quoted-is (token.Literal d ∷ ts) t us e = absurd cc

literal-is : (ts : List Token) (d : Doc) (us : List Token) → literal_at ts ≡ Some (d, us) → ts ≡ token.Literal d ∷ us
literal-is [] d us e = absurd cc
literal-is (token.Literal c ∷ ts) d us e = ap (λ x. token.Literal x.0 ∷ x.1) (some_same {A = Doc × List Token} (c, ts) (d, us) e)
literal-is (token.Mark m ∷ ts) d us e = absurd cc
literal-is (token.Name s ∷ ts) d us e = absurd cc
literal-is (token.Quoted s ∷ ts) d us e = absurd cc
literal-is (token.Number k ∷ ts) d us e = absurd cc

-- a comparator's mark
abbrev ComparatorIs : List Token → Comparator → List Token → Type 0
ComparatorIs ts c us = (m : Mark) × (comparator_of m ≡ Some c) × (ts ≡ token.Mark m ∷ us)

comparator-of : (m : Mark) (ts : List Token) (o : Option Comparator) (c : Comparator) (us : List Token) → comparator_of m ≡ o → followed o ts ≡ Some (c, us) → ComparatorIs (token.Mark m ∷ ts) c us
comparator-of m ts None c us e f = absurd cc
comparator-of m ts (Some d) c us e f = let same = some_same {A = Comparator × List Token} (d, ts) (c, us) f in (m, e ∙ ap (λ x. Some x.0) same, ap (λ x. token.Mark m ∷ x.1) same)

comparator-is : (ts : List Token) (c : Comparator) (us : List Token) → comparator_at ts ≡ Some (c, us) → ComparatorIs ts c us
comparator-is [] c us e = absurd cc
comparator-is (token.Mark m ∷ ts) c us e = comparator-of m ts (comparator_of m) c us refl e
comparator-is (token.Name t ∷ ts) c us e = absurd cc
comparator-is (token.Quoted t ∷ ts) c us e = absurd cc
comparator-is (token.Number k ∷ ts) c us e = absurd cc
comparator-is (token.Literal d ∷ ts) c us e = absurd cc

-- a key and its colon
abbrev KeyIs : List Token → List ℕ × List Token → Type 0
KeyIs ts x = (t : Token) × g.Identifier t x.0 × (ts ≡ t ∷ token.Mark mark.Colon ∷ x.1)

before_colon-is : (ts : List Token) (t : Token) (name : List ℕ) (us : List Token) → g.Identifier t name → ts ≡ t ∷ us → IfOk (before_colon ts (Some (name, us))) (KeyIs ts)
before_colon-is ts t name us h e = before mark.Colon name us (KeyIs ts) (λ vs f. (t, h, e ∙ ap (λ ws. t ∷ ws) f))

key-is : (ts : List Token) → IfOk (key_at ts) (KeyIs ts)
key-is [] = tt
key-is (token.Name t ∷ ts) = before_colon-is (token.Name t ∷ ts) (token.Name t) t ts g.Identifier.unquoted_string refl
key-is (token.Quoted t ∷ ts) = before_colon-is (token.Quoted t ∷ ts) (token.Quoted t) t ts g.Identifier.quoted_string refl
key-is (token.Mark m ∷ ts) = tt
key-is (token.Number k ∷ ts) = tt
key-is (token.Literal d ∷ ts) = tt

-- What stands in brackets.

-- behind `[` stands what this step is written by, where it may stand there
abbrev InBrackets : ℕ → List Token → Step Expr × List Token → Type 0
InBrackets n us x = n < 100 → g.BracketSpecifier n (token.Mark mark.OpenBracket ∷ us) (link.Step x.0) x.1

abbrev Bracketed : ℕ → List Token → Read (Step Expr) → Type 0
Bracketed n us o = IfOk o (InBrackets n us)

index-is : (n : ℕ) (us : List Token) (o : Option Whole) (vs : List Token) → us ≡ optional o ++ vs → Bracketed n us (only_number us o vs)
index-is n us None vs e = tt
index-is n us (Some i) vs e =
    before mark.CloseBracket (step.Index i) vs (InBrackets n us)
    (λ rest f. subst (λ ts. InBrackets n ts (step.Index i, rest)) (sym (e ∙ ap (λ ts. token.Number i ∷ ts) f)) (λ less. g.BracketSpecifier.index less))

sliced : (n : ℕ) (ts us vs rest : List Token) (s : Step Expr) → g.SliceExpression ts s → us ≡ ts ++ vs → vs ≡ token.Mark mark.CloseBracket ∷ rest → InBrackets n us (s, rest)
sliced n ts us vs rest s h e f = subst (λ ws. InBrackets n ws (s, rest)) (sym (e ∙ ap (λ ws. ts ++ ws) f)) (λ less. g.BracketSpecifier.slice_expression less h)

positive : (k : ℕ) → k == 0 ≡ false → 0 < k
positive k e = let ne = eqb-false k 0 e in omega arith

step-is : (n : ℕ) (us : List Token) (start stop : Option Whole) (vs : List Token) → us ≡ (optional start ++ token.Mark mark.Colon ∷ optional stop ++ token.Mark mark.Colon ∷ []) ++ vs → Bracketed n us (step_at start stop vs)
step-is n us start stop vs e =
    let by = number_at vs in
    let front = optional start ++ token.Mark mark.Colon ∷ optional stop ++ token.Mark mark.Colon ∷ [] in
    let all : us ≡ (front ++ optional by.0) ++ by.1 = e ∙ ap (λ ws. front ++ ws) (number-is vs) ∙ sym (append_assoc front (optional by.0) by.1) in
    let same : front ++ optional by.0 ≡ optional start ++ token.Mark mark.Colon ∷ optional stop ++ token.Mark mark.Colon ∷ optional by.0 = append_assoc (optional start ++ token.Mark mark.Colon ∷ optional stop) (token.Mark mark.Colon ∷ []) (optional by.0) in
    elim ((step_of by.0).magnitude == 0) as (λ v. (step_of by.0).magnitude == 0 ≡ v → Bracketed n us (if v then Err (Syntax (length vs)) else closed mark.CloseBracket (slice start stop (step_of by.0)) by.1)) [
      | true ↦ (λ zero. tt)
      | false ↦ (λ nonzero. before mark.CloseBracket (slice start stop (step_of by.0)) by.1 (InBrackets n us)
          (λ rest f. sliced n _ us by.1 rest _ (g.SliceExpression.long_slice start stop by.0 (positive _ nonzero)) (all ∙ ap (λ ws. ws ++ by.1) same) f))
    ] refl

stop-is : (n : ℕ) (us : List Token) (start stop : Option Whole) (vs : List Token) (o : Option (List Token)) → us ≡ (optional start ++ token.Mark mark.Colon ∷ optional stop) ++ vs → behind mark.Colon vs ≡ o → Bracketed n us (stop_at start stop vs o)
stop-is n us start stop vs None e f =
    before mark.CloseBracket (slice start stop (step_of None)) vs (InBrackets n us) (λ rest h. sliced n _ us vs rest _ (g.SliceExpression.short_slice start stop) e h)
stop-is n us start stop vs (Some ws) e f =
    let front = optional start ++ token.Mark mark.Colon ∷ optional stop in
    step-is n us start stop ws (e ∙ ap (λ xs. front ++ xs) (behind-is mark.Colon vs ws f) ∙ sym (append_assoc front (token.Mark mark.Colon ∷ []) ws))

slice-is : (n : ℕ) (us : List Token) (start : Option Whole) (vs : List Token) → us ≡ optional start ++ token.Mark mark.Colon ∷ vs → Bracketed n us (slice_at start vs)
slice-is n us start vs e =
    let stop = number_at vs in
    stop-is n us start stop.0 stop.1 (behind mark.Colon stop.1)
    (e ∙ ap (λ ws. optional start ++ token.Mark mark.Colon ∷ ws) (number-is vs) ∙ sym (append_assoc (optional start) (token.Mark mark.Colon ∷ optional stop.0) stop.1)) refl

start-is : (n : ℕ) (us : List Token) (start : Option Whole) (vs : List Token) (o : Option (List Token)) → us ≡ optional start ++ vs → behind mark.Colon vs ≡ o → Bracketed n us (start_at us start vs o)
start-is n us start vs None e f = index-is n us start vs e
start-is n us start vs (Some ws) e f = slice-is n us start ws (e ∙ ap (λ xs. optional start ++ xs) (behind-is mark.Colon vs ws f))

star-is : (n : ℕ) (us : List Token) (o : Option (List Token)) → behind mark.Star us ≡ o → Bracketed n us (star_at us o)
star-is n us (Some vs) e =
    before mark.CloseBracket step.Elements vs (InBrackets n us)
    (λ rest f. subst (λ ts. InBrackets n ts (step.Elements, rest)) (sym (behind-is mark.Star us vs e ∙ ap (λ ts. token.Mark mark.Star ∷ ts) f)) (λ less. g.BracketSpecifier.elements less))
star-is n us None e = let start = number_at us in start-is n us start.0 start.1 (behind mark.Colon start.1) (number-is us) refl

brackets-are : (n : ℕ) (us : List Token) → Bracketed n us (index_at us)
brackets-are n us = star-is n us (behind mark.Star us) refl

-- what is read behind an opening mark is read where few brackets are open
opened-is : {A : Type 0} (n : ℕ) (us : List Token) (o : Read A) (P : A × List Token → Type 0) → IfOk o (λ x. n < 100 → P x) → IfOk (opened n us o) P
opened-is n us o P h =
    elim (nat_lt n 100) as (λ v. nat_lt n 100 ≡ v → IfOk (if v then o else Err (Syntax (length us + 1))) P)
    [ true ↦ (λ e. IfOk-weaker o (λ x. n < 100 → P x) P (λ x f. f (ltb-true n 100 e)) h) | false ↦ (λ e. tt) ] refl

abbrev OpensWith : Mark → ℕ → List Token → Link × List Token → Type 0
OpensWith m n us x = g.BracketSpecifier n (token.Mark m ∷ us) x.0 x.1

index_in-is : (n : ℕ) (us : List Token) → IfOk (index_in n us) (λ x. OpensWith mark.OpenBracket n us (link.Step x.0, x.1))
index_in-is n us = opened-is n us (index_at us) (λ x. OpensWith mark.OpenBracket n us (link.Step x.0, x.1)) (brackets-are n us)

flatten_in-is : (n : ℕ) (us : List Token) → IfOk (flatten_in n us) (OpensWith mark.Flatten n us)
flatten_in-is n us = opened-is n us (Ok (link.Flatten, us)) (OpensWith mark.Flatten n us) (λ less. g.BracketSpecifier.flatten less)

-- no index stands in front, and so no `[*]`
no_elements : (ts : List Token) → behind_index ts ≡ None → BeginsWithElements ts → ⊥
no_elements ts e (rest, f) = let none : behind_index (token.Mark mark.OpenBracket ∷ token.Mark mark.Star ∷ token.Mark mark.CloseBracket ∷ rest) ≡ None = subst (λ us. behind_index us ≡ None) f e in absurd cc

-- Outcomes with other values.

IfOk-made : {A B : Type 0} (f : A → B) (o : Read A) (P : B × List Token → Type 0) → IfOk o (λ x. P (f x.0, x.1)) → IfOk (made f o) P
IfOk-made f (Ok x) P h = h
IfOk-made f (Err stop) P h = tt

-- this of what was read, with another value
made-is : {A B : Type 0} (f : A → B) (o : Read A) (P : A × List Token → Type 0) (Q : B × List Token → Type 0) → ((x : A × List Token) → P x → Q (f x.0, x.1)) → IfOk o P → IfOk (made f o) Q
made-is f o P Q h p = IfOk-made f o Q (IfOk-weaker o P (λ x. Q (f x.0, x.1)) h p)

-- this of a link, where there is one
abbrev IfLinked : (Link × List Token → Type 0) → Linking → Type 0
IfLinked P (Err stop) = Unit {0}
IfLinked P (Ok None) = Unit {0}
IfLinked P (Ok (Some x)) = P x

linking-is : {A : Type 0} (f : A → Link) (o : Read A) (P : A × List Token → Type 0) (Q : Link × List Token → Type 0) → ((x : A × List Token) → P x → Q (f x.0, x.1)) → IfOk o P → IfLinked Q (linking f o)
linking-is f (Ok x) P Q h p = h x p
linking-is f (Err stop) P Q h p = tt

closed-is : (m : Mark) (n : ℕ) (ts : List Token) (o : Read Expr) → IfOk o (λ x. g.ExpressionAt level.Pipe n ts x.0 x.1) → IfOk (o >>= (λ x. closed m x.0 x.1)) (λ x. g.ExpressionAt level.Pipe n ts x.0 (token.Mark m ∷ x.1))
closed-is m n ts (Ok x) h = before m x.0 x.1 (λ y. g.ExpressionAt level.Pipe n ts y.0 (token.Mark m ∷ y.1)) (λ us e. subst (g.ExpressionAt level.Pipe n ts x.0) e h)
closed-is m n ts (Err stop) h = tt

-- `!` in front of a chain
negated-is : (n : ℕ) (ts : List Token) (c : Chain Expr) (rest : List Token) → g.ChainAt n (negations_at ts).1 c rest → g.NotExpression n ts (operand (negations_at ts).0 c) rest
negated-is n [] c rest h = g.NotExpression.no_not h
negated-is n (t ∷ ts) c rest h =
    elim (is_mark mark.Not t) as (λ v. is_mark mark.Not t ≡ v → let x : ℕ × List Token = (if v then ((negations_at ts).0 + 1, (negations_at ts).1) else (0, t ∷ ts)) in
    g.ChainAt n x.1 c rest → g.NotExpression n (t ∷ ts) (operand x.0 c) rest) [
      | true ↦ (λ e k. subst (λ s. g.NotExpression n (s ∷ ts) (operand ((negations_at ts).0 + 1) c) rest) (sym (mark-is mark.Not t e)) (g.NotExpression.one_not (negated-is n ts c rest k)))
      | false ↦ (λ e k. g.NotExpression.no_not k)
    ] refl h

-- a call with as many arguments as its function takes
counted-is : (n : ℕ) (f : Function) (left : ℕ) (us : List Token) (o : Read (List (Argument Expr))) → n < 100 → IfOk o (λ x. g.Args (n + 1) us x.0 x.1)
    → IfOk (counted f left o) (λ x. g.Part n (token.Name (name_of f) ∷ token.Mark mark.OpenGroup ∷ us) x.0 x.1)
counted-is n f left us (Err stop) less h = tt
counted-is n f left us (Ok x) less h =
    let taken : Read (Step Expr) = Ok (step.Call f x.0, x.1) in
    elim (takes (arity_of f) (length x.0)) as (λ v. takes (arity_of f) (length x.0) ≡ v → IfOk (if v then taken else Err (Arity left)) (λ y. g.Part n (token.Name (name_of f) ∷ token.Mark mark.OpenGroup ∷ us) y.0 y.1))
    [ true ↦ (λ e. g.Part.function_expression less e h) | false ↦ (λ e. tt) ] refl

-- What each part gives.

abbrev SidesAre : Level → ℕ → List Expr → List Token → List Expr × List Token → Type 0
SidesAre l n acc ts x = (e : Expr) × (es : List Expr) × (us : List Token) × (x.0 ≡ acc ++ e ∷ es) × g.Side l n ts e us × g.MoreSides l n us es x.1

abbrev ComparisonsAre : ℕ → List (Compared Expr) → List Token → List (Compared Expr) × List Token → Type 0
ComparisonsAre n acc ts x = (cs : List (Compared Expr)) × (x.0 ≡ acc ++ cs) × g.Comparisons n ts cs x.1

abbrev LinksAre : ℕ → Chain Expr → List Token → Chain Expr × List Token → Type 0
LinksAre n c ts x = (ks : List Link) × (x.0 ≡ with_links c ks) × g.Links n ts ks x.1

abbrev ItemsAre : ℕ → List Expr → List Token → List Expr × List Token → Type 0
ItemsAre n acc ts x = (e : Expr) × (es : List Expr) × (us : List Token) × (x.0 ≡ acc ++ e ∷ es) × g.ExpressionAt level.Pipe n ts e us × g.MoreItems n us es (token.Mark mark.CloseBracket ∷ x.1)

abbrev MembersAre : ℕ → List (Pair Expr) → List Token → List (Pair Expr) × List Token → Type 0
MembersAre n acc ts x = (p : Pair Expr) × (ps : List (Pair Expr)) × (us : List Token) × (x.0 ≡ acc ++ p ∷ ps) × g.KeyvalExpr n ts p us × g.MoreKeyvals n us ps (token.Mark mark.CloseBrace ∷ x.1)

abbrev ArgumentsAre : ℕ → List (Argument Expr) → List Token → List (Argument Expr) × List Token → Type 0
ArgumentsAre n acc ts x = (a : Argument Expr) × (args : List (Argument Expr)) × (us : List Token) × (x.0 ≡ acc ++ a ∷ args) × g.FunctionArg n ts a us × g.MoreArgs n us args (token.Mark mark.CloseGroup ∷ x.1)

-- an expression inside brackets, up to this mark
abbrev EnclosedIs : Mark → ℕ → List Token → Expr × List Token → Type 0
EnclosedIs m n ts x = (n < 100) × g.ExpressionAt level.Pipe (n + 1) ts x.0 (token.Mark m ∷ x.1)

-- a key and its value
keyval-is : (n : ℕ) (ts us vs : List Token) (k : List ℕ) (e : Expr) → key_at ts ≡ Ok (k, us) → g.ExpressionAt level.Pipe n us e vs → g.KeyvalExpr n ts (member k e) vs
keyval-is n ts us vs k e h v =
    let key = IfOk-at_ok (KeyIs ts) h (key-is ts) in
    subst (λ ws. g.KeyvalExpr n ws (member k e) vs) (sym key.2) (g.KeyvalExpr.keyval key.1 v)

mutual
  joined_sound : {l : Level} {n : ℕ} {ts : List Token} {o : Read Expr} → Joined l n ts o → IfOk o (λ x. g.ExpressionAt l n ts x.0 x.1)
  joined_sound (Joined.sides {l = l} {n = n} {ts = ts} {o = o} es) =
      made-is (one_of l) o (SidesAre l n [] ts) (λ x. g.ExpressionAt l n ts x.0 x.1)
      (λ x h. subst (λ ds. g.ExpressionAt l n ts (one_of l ds) x.1) (sym h.3) (g.ExpressionAt.sides h.4 h.5)) (sides_sound es)

  side_sound : {l : Level} {n : ℕ} {ts : List Token} {o : Read Expr} → Side l n ts o → IfOk o (λ x. g.Side l n ts x.0 x.1)
  side_sound (Side.pipe_side {n = n} {ts = ts} {o = o} e) = IfOk-weaker o (λ x. g.ExpressionAt level.Or n ts x.0 x.1) (λ x. g.Side level.Pipe n ts x.0 x.1) (λ x h. g.Side.pipe_side h) (joined_sound e)
  side_sound (Side.or_side {n = n} {ts = ts} {o = o} e) = IfOk-weaker o (λ x. g.ExpressionAt level.And n ts x.0 x.1) (λ x. g.Side level.Or n ts x.0 x.1) (λ x h. g.Side.or_side h) (joined_sound e)
  side_sound (Side.and_side {n = n} {ts = ts} {o = o} e) = IfOk-weaker o (λ x. g.ComparatorExpression n ts x.0 x.1) (λ x. g.Side level.And n ts x.0 x.1) (λ x h. g.Side.and_side h) (comparison_sound e)

  sides_sound : {l : Level} {n : ℕ} {acc : List Expr} {ts : List Token} {o : Read (List Expr)} → Sides l n acc ts o → IfOk o (SidesAre l n acc ts)
  sides_sound (Sides.bad_side e) = tt
  sides_sound (Sides.last_side {us = us} {e = d} e f) = (d, [], us, refl, side_sound e, g.MoreSides.no_side)
  sides_sound (Sides.more_sides {l = l} {n = n} {es = acc} {ts = ts} {us = us} {rest = rest} {e = d} {o = o} e f more) =
      IfOk-weaker o (SidesAre l n (acc ++ d ∷ []) rest) (SidesAre l n acc ts)
      (λ x h. (d, h.0 ∷ h.1, us, h.3 ∙ append_assoc acc (d ∷ []) (h.0 ∷ h.1), side_sound e, subst (λ vs. g.MoreSides l n vs (h.0 ∷ h.1) x.1) (sym (behind-is (mark_of l) us rest f)) (g.MoreSides.more_sides h.4 h.5))) (sides_sound more)

  comparison_sound : {n : ℕ} {ts : List Token} {o : Read Expr} → Comparison n ts o → IfOk o (λ x. g.ComparatorExpression n ts x.0 x.1)
  comparison_sound (Comparison.bad_first a) = tt
  comparison_sound (Comparison.compared_with {n = n} {ts = ts} {us = us} {a = a} {o = o} d cs) =
      made-is (comparison a) o (ComparisonsAre n [] us) (λ x. g.ComparatorExpression n ts x.0 x.1)
      (λ x h. subst (λ ds. g.ComparatorExpression n ts (comparison a ds) x.1) (sym h.1) (g.ComparatorExpression.comparisons (operand_sound d) h.2)) (comparisons_sound cs)

  comparisons_sound : {n : ℕ} {acc : List (Compared Expr)} {ts : List Token} {o : Read (List (Compared Expr))} → Comparisons n acc ts o → IfOk o (ComparisonsAre n acc ts)
  comparisons_sound (Comparisons.no_comparator {cs = acc} e) = ([], sym (append-nil acc), g.Comparisons.no_comparison)
  comparisons_sound (Comparisons.bad_right e a) = tt
  comparisons_sound (Comparisons.more_compared {n = n} {cs = acc} {ts = ts} {us = us} {vs = vs} {c = c} {a = a} {o = o} e d more) =
      let m = comparator-is ts c us e in
      IfOk-weaker o (ComparisonsAre n (acc ++ compared c a ∷ []) vs) (ComparisonsAre n acc ts)
      (λ x h. (compared c a ∷ h.0, h.1 ∙ append_assoc acc (compared c a ∷ []) h.0, subst (λ ws. g.Comparisons n ws (compared c a ∷ h.0) x.1) (sym m.2) (g.Comparisons.more_comparisons m.1 (operand_sound d) h.2))) (comparisons_sound more)

  operand_sound : {n : ℕ} {ts : List Token} {o : Read (Operand Expr)} → OperandAt n ts o → IfOk o (λ x. g.NotExpression n ts x.0 x.1)
  operand_sound (OperandAt.negated {n = n} {ts = ts} {o = o} c) =
      made-is (operand (negations_at ts).0) o (λ x. g.ChainAt n (negations_at ts).1 x.0 x.1) (λ x. g.NotExpression n ts x.0 x.1) (λ x h. negated-is n ts x.0 x.1 h) (chain_sound c)

  chain_sound : {n : ℕ} {ts : List Token} {o : Read (Chain Expr)} → ChainAt n ts o → IfOk o (λ x. g.ChainAt n ts x.0 x.1)
  chain_sound (ChainAt.bad_start k) = tt
  chain_sound (ChainAt.started {n = n} {ts = ts} {us = us} {k = k} {o = o} first ks) =
      IfOk-weaker o (LinksAre n (linked empty_chain k) us) (λ x. g.ChainAt n ts x.0 x.1)
      (λ x h. subst (λ c. g.ChainAt n ts c x.1) (sym h.1) (g.ChainAt.links (first_sound first) h.2)) (links_sound ks)

  links_sound : {n : ℕ} {c : Chain Expr} {ts : List Token} {o : Read (Chain Expr)} → Links n c ts o → IfOk o (LinksAre n c ts)
  links_sound (Links.no_link k) = ([], refl, g.Links.no_link)
  links_sound (Links.bad_link k) = tt
  links_sound (Links.more_links {n = n} {c = c} {ts = ts} {us = us} {k = k} {o = o} at ks) =
      IfOk-weaker o (LinksAre n (linked c k) us) (LinksAre n c ts) (λ x h. (k ∷ h.0, h.1, g.Links.more_links (link_sound at) h.2)) (links_sound ks)

  link_sound : {n : ℕ} {ts : List Token} {o : Linking} → LinkAt n ts o → IfLinked (λ x. g.LinkAt n ts x.0 x.1) o
  link_sound (LinkAt.dot {n = n} {ts = ts} {us = us} {o = o} e p) =
      linking-is link.Step o (λ x. g.Part n us x.0 x.1) (λ x. g.LinkAt n ts x.0 x.1)
      (λ x h. subst (λ vs. g.LinkAt n vs (link.Step x.0) x.1) (sym (behind-is mark.Dot ts us e)) (g.LinkAt.sub_expression h)) (part_sound p)
  link_sound (LinkAt.index {n = n} {ts = ts} {us = us} e) =
      linking-is link.Step (index_in n us) (λ x. OpensWith mark.OpenBracket n us (link.Step x.0, x.1)) (λ x. g.LinkAt n ts x.0 x.1)
      (λ x h. subst (λ vs. g.LinkAt n vs (link.Step x.0) x.1) (sym (behind-is mark.OpenBracket ts us e)) (g.LinkAt.index_expression h)) (index_in-is n us)
  link_sound (LinkAt.filter {n = n} {ts = ts} {us = us} {o = o} e f) =
      linking-is (λ e. link.Step (step.FilterProjection e)) o (EnclosedIs mark.CloseBracket n us) (λ x. g.LinkAt n ts x.0 x.1)
      (λ x h. subst (λ vs. g.LinkAt n vs (link.Step (step.FilterProjection x.0)) x.1) (sym (behind-is mark.OpenFilter ts us e)) (g.LinkAt.index_expression (g.BracketSpecifier.filter h.0 h.1))) (enclosed_sound f)
  link_sound (LinkAt.flatten {n = n} {ts = ts} {us = us} e) =
      linking-is (λ k. k) (flatten_in n us) (OpensWith mark.Flatten n us) (λ x. g.LinkAt n ts x.0 x.1)
      (λ x h. subst (λ vs. g.LinkAt n vs x.0 x.1) (sym (behind-is mark.Flatten ts us e)) (g.LinkAt.index_expression h)) (flatten_in-is n us)
  link_sound (LinkAt.chain_ends a b c d) = tt

  enclosed_sound : {m : Mark} {n : ℕ} {ts : List Token} {o : Read Expr} → Enclosed m n ts o → IfOk o (EnclosedIs m n ts)
  enclosed_sound (Enclosed.deep_bracket more) = tt
  enclosed_sound (Enclosed.enclosed {m = m} {n = n} {ts = ts} {o = o} less e) =
      IfOk-weaker (o >>= (λ x. closed m x.0 x.1)) (λ x. g.ExpressionAt level.Pipe (n + 1) ts x.0 (token.Mark m ∷ x.1)) (EnclosedIs m n ts) (λ x h. (less, h)) (closed-is m (n + 1) ts o (joined_sound e))

  first_sound : {n : ℕ} {ts : List Token} {o : Read Link} → First n ts o → IfOk o (λ x. g.First n ts x.0 x.1)
  first_sound (First.group {n = n} {ts = ts} {us = us} {o = o} e f) =
      made-is (λ e. link.Step (step.Group e)) o (EnclosedIs mark.CloseGroup n us) (λ x. g.First n ts x.0 x.1)
      (λ x h. subst (λ vs. g.First n vs (link.Step (step.Group x.0)) x.1) (sym (behind-is mark.OpenGroup ts us e)) (g.First.paren_expression h.0 h.1)) (enclosed_sound f)
  first_sound (First.first_filter {n = n} {ts = ts} {us = us} {o = o} e f) =
      made-is (λ e. link.Step (step.FilterProjection e)) o (EnclosedIs mark.CloseBracket n us) (λ x. g.First n ts x.0 x.1)
      (λ x h. subst (λ vs. g.First n vs (link.Step (step.FilterProjection x.0)) x.1) (sym (behind-is mark.OpenFilter ts us e)) (g.First.bracket_specifier (g.BracketSpecifier.filter h.0 h.1))) (enclosed_sound f)
  first_sound (First.first_index {n = n} {ts = ts} {us = us} e) =
      made-is link.Step (index_in n us) (λ x. OpensWith mark.OpenBracket n us (link.Step x.0, x.1)) (λ x. g.First n ts x.0 x.1)
      (λ x h. subst (λ vs. g.First n vs (link.Step x.0) x.1) (sym (behind-is mark.OpenBracket ts us (behind_index-bracket ts us e))) (g.First.bracket_specifier h)) (index_in-is n us)
  first_sound (First.first_flatten {n = n} {ts = ts} {us = us} e) =
      IfOk-weaker (flatten_in n us) (OpensWith mark.Flatten n us) (λ x. g.First n ts x.0 x.1)
      (λ x h. subst (λ vs. g.First n vs x.0 x.1) (sym (behind-is mark.Flatten ts us e)) (g.First.bracket_specifier h)) (flatten_in-is n us)
  first_sound (First.current {n = n} {ts = ts} {us = us} e) =
      subst (λ vs. g.First n vs (link.Step step.Current) us) (sym (behind-is mark.Current ts us e)) g.First.current_node
  first_sound (First.literal {n = n} {ts = ts} {us = us} {d = d} e) =
      subst (λ vs. g.First n vs (link.Step (step.Literal d)) us) (sym (literal-is ts d us e)) g.First.literal
  first_sound (First.part {n = n} {ts = ts} {o = o} a b c d e f p) =
      made-is link.Step o (λ x. g.Part n ts x.0 x.1) (λ x. g.First n ts x.0 x.1) (λ x h. g.First.part (no_elements ts c) h) (part_sound p)

  part_sound : {n : ℕ} {ts : List Token} {o : Read (Step Expr)} → Part n ts o → IfOk o (λ x. g.Part n ts x.0 x.1)
  part_sound (Part.values {n = n} {ts = ts} {us = us} e) = subst (λ vs. g.Part n vs step.Values us) (sym (behind-is mark.Star ts us e)) g.Part.values
  part_sound (Part.list {n = n} {ts = ts} {us = us} {o = o} e f) =
      made-is step.List o (λ x. (n < 100) × ItemsAre (n + 1) [] us x) (λ x. g.Part n ts x.0 x.1)
      (λ x h. subst (λ vs. g.Part n vs (step.List x.0) x.1) (sym (behind-is mark.OpenBracket ts us e)) (subst (λ es. g.Part n (token.Mark mark.OpenBracket ∷ us) (step.List es) x.1) (sym h.1.3) (g.Part.multi_select_list h.0 h.1.4 h.1.5))) (items_sound f)
  part_sound (Part.hash {n = n} {ts = ts} {us = us} {o = o} e f) =
      made-is step.Hash o (λ x. (n < 100) × MembersAre (n + 1) [] us x) (λ x. g.Part n ts x.0 x.1)
      (λ x h. subst (λ vs. g.Part n vs (step.Hash x.0) x.1) (sym (behind-is mark.OpenBrace ts us e)) (subst (λ ps. g.Part n (token.Mark mark.OpenBrace ∷ us) (step.Hash ps) x.1) (sym h.1.3) (g.Part.multi_select_hash h.0 h.1.4 h.1.5))) (members_sound f)
  part_sound (Part.name {n = n} {t = t} {ts = ts} {us = us} {o = o} e f) = subst (λ vs. IfOk o (λ x. g.Part n vs x.0 x.1)) (sym (name-is ts t us e)) (named_sound f)
  part_sound (Part.quoted {n = n} {t = t} {ts = ts} {us = us} e) = subst (λ vs. g.Part n vs (step.Field t) us) (sym (quoted-is ts t us e)) (g.Part.identifier g.Identifier.quoted_string)
  part_sound (Part.nothing a b c d e) = tt

  named_sound : {n : ℕ} {t : List ℕ} {ts : List Token} {o : Read (Step Expr)} → Named n t ts o → IfOk o (λ x. g.Part n (token.Name t ∷ ts) x.0 x.1)
  named_sound (Named.field e) = g.Part.identifier g.Identifier.unquoted_string
  named_sound (Named.unknown e f) = tt
  named_sound (Named.deep_call e f more) = tt
  named_sound (Named.call {n = n} {t = t} {f = f} {ts = ts} {us = us} {o = o} e h less args) =
      let P : List ℕ → List Token → Type 0 = λ name vs. IfOk (counted f (length ts + 1) o) (λ x. g.Part n (token.Name name ∷ vs) x.0 x.1) in
      subst (λ name. P name ts) (sym (name_found t f h)) (subst (P (name_of f)) (sym (behind-is mark.OpenGroup ts us e)) (counted-is n f (length ts + 1) us o less (arguments_sound args)))

  items_sound : {n : ℕ} {ts : List Token} {o : Read (List Expr)} → Items n ts o → IfOk o (λ x. (n < 100) × ItemsAre (n + 1) [] ts x)
  items_sound (Items.deep_list more) = tt
  items_sound (Items.items {n = n} {ts = ts} {o = o} less es) = IfOk-weaker o (ItemsAre (n + 1) [] ts) (λ x. (n < 100) × ItemsAre (n + 1) [] ts x) (λ x h. (less, h)) (more_items_sound es)

  more_items_sound : {n : ℕ} {acc : List Expr} {ts : List Token} {o : Read (List Expr)} → MoreItems n acc ts o → IfOk o (ItemsAre n acc ts)
  more_items_sound (MoreItems.bad_item e) = tt
  more_items_sound (MoreItems.last_item {n = n} {us = us} {rest = rest} {e = d} e f) =
      (d, [], us, refl, joined_sound e, subst (λ vs. g.MoreItems n us [] vs) (behind-is mark.CloseBracket us rest f) g.MoreItems.no_item)
  more_items_sound (MoreItems.more_items {n = n} {es = acc} {ts = ts} {us = us} {rest = rest} {e = d} {o = o} e f h more) =
      IfOk-weaker o (ItemsAre n (acc ++ d ∷ []) rest) (ItemsAre n acc ts)
      (λ x k. (d, k.0 ∷ k.1, us, k.3 ∙ append_assoc acc (d ∷ []) (k.0 ∷ k.1), joined_sound e, subst (λ vs. g.MoreItems n vs (k.0 ∷ k.1) (token.Mark mark.CloseBracket ∷ x.1)) (sym (past-at mark.Comma us rest h)) (g.MoreItems.more_items k.4 k.5))) (more_items_sound more)
  more_items_sound (MoreItems.open_list e f h) = tt

  members_sound : {n : ℕ} {ts : List Token} {o : Read (List (Pair Expr))} → Members n ts o → IfOk o (λ x. (n < 100) × MembersAre (n + 1) [] ts x)
  members_sound (Members.deep_hash more) = tt
  members_sound (Members.members {n = n} {ts = ts} {o = o} less ms) = IfOk-weaker o (MembersAre (n + 1) [] ts) (λ x. (n < 100) × MembersAre (n + 1) [] ts x) (λ x h. (less, h)) (more_members_sound ms)

  more_members_sound : {n : ℕ} {acc : List (Pair Expr)} {ts : List Token} {o : Read (List (Pair Expr))} → MoreMembers n acc ts o → IfOk o (MembersAre n acc ts)
  more_members_sound (MoreMembers.bad_key e) = tt
  more_members_sound (MoreMembers.bad_member e v) = tt
  more_members_sound (MoreMembers.last_member {n = n} {k = k} {ts = ts} {us = us} {vs = vs} {rest = rest} {e = d} e v f) =
      (member k d, [], vs, refl, keyval-is n ts us vs k d e (joined_sound v), subst (λ ws. g.MoreKeyvals n vs [] ws) (behind-is mark.CloseBrace vs rest f) g.MoreKeyvals.no_keyval)
  more_members_sound (MoreMembers.more_members {n = n} {ps = acc} {k = k} {ts = ts} {us = us} {vs = vs} {rest = rest} {e = d} {o = o} e v f h more) =
      IfOk-weaker o (MembersAre n (acc ++ member k d ∷ []) rest) (MembersAre n acc ts)
      (λ x r. (member k d, r.0 ∷ r.1, vs, r.3 ∙ append_assoc acc (member k d ∷ []) (r.0 ∷ r.1), keyval-is n ts us vs k d e (joined_sound v), subst (λ ws. g.MoreKeyvals n ws (r.0 ∷ r.1) (token.Mark mark.CloseBrace ∷ x.1)) (sym (past-at mark.Comma vs rest h)) (g.MoreKeyvals.more_keyvals r.4 r.5))) (more_members_sound more)
  more_members_sound (MoreMembers.open_hash e v f h) = tt

  arguments_sound : {n : ℕ} {ts : List Token} {o : Read (List (Argument Expr))} → Arguments n ts o → IfOk o (λ x. g.Args n ts x.0 x.1)
  arguments_sound (Arguments.no_arguments {n = n} {ts = ts} {rest = rest} e) = subst (λ vs. g.Args n vs [] rest) (sym (behind-is mark.CloseGroup ts rest e)) g.Args.no_args
  arguments_sound (Arguments.arguments {n = n} {ts = ts} {o = o} e args) =
      IfOk-weaker o (ArgumentsAre n [] ts) (λ x. g.Args n ts x.0 x.1) (λ x h. subst (λ all. g.Args n ts all x.1) (sym h.3) (g.Args.one_or_more_args h.4 h.5)) (more_arguments_sound args)

  more_arguments_sound : {n : ℕ} {acc : List (Argument Expr)} {ts : List Token} {o : Read (List (Argument Expr))} → MoreArguments n acc ts o → IfOk o (ArgumentsAre n acc ts)
  more_arguments_sound (MoreArguments.bad_argument a) = tt
  more_arguments_sound (MoreArguments.last_argument {n = n} {us = us} {rest = rest} {a = d} a f) =
      (d, [], us, refl, argument_sound a, subst (λ vs. g.MoreArgs n us [] vs) (behind-is mark.CloseGroup us rest f) g.MoreArgs.no_arg)
  more_arguments_sound (MoreArguments.more_arguments {n = n} {args = acc} {ts = ts} {us = us} {rest = rest} {a = d} {o = o} a f h more) =
      IfOk-weaker o (ArgumentsAre n (acc ++ d ∷ []) rest) (ArgumentsAre n acc ts)
      (λ x k. (d, k.0 ∷ k.1, us, k.3 ∙ append_assoc acc (d ∷ []) (k.0 ∷ k.1), argument_sound a, subst (λ vs. g.MoreArgs n vs (k.0 ∷ k.1) (token.Mark mark.CloseGroup ∷ x.1)) (sym (past-at mark.Comma us rest h)) (g.MoreArgs.more_args k.4 k.5))) (more_arguments_sound more)
  more_arguments_sound (MoreArguments.open_call a f h) = tt

  argument_sound : {n : ℕ} {ts : List Token} {o : Read (Argument Expr)} → ArgumentAt n ts o → IfOk o (λ x. g.FunctionArg n ts x.0 x.1)
  argument_sound (ArgumentAt.expref {n = n} {ts = ts} {us = us} {o = o} e f) =
      made-is argument.Expref o (λ x. g.ExpressionAt level.Pipe n us x.0 x.1) (λ x. g.FunctionArg n ts x.0 x.1)
      (λ x h. subst (λ vs. g.FunctionArg n vs (argument.Expref x.0) x.1) (sym (behind-is mark.Expref ts us e)) (g.FunctionArg.expression_type h)) (joined_sound f)
  argument_sound (ArgumentAt.value {n = n} {ts = ts} {o = o} e f) =
      made-is argument.Value o (λ x. g.ExpressionAt level.Pipe n ts x.0 x.1) (λ x. g.FunctionArg n ts x.0 x.1) (λ x h. g.FunctionArg.value h) (joined_sound f)

pub tokens_sound : (ts : List Token) (x : Expr × List Token) → Joined level.Pipe 0 ts (Ok x) → g.ExpressionAt level.Pipe 0 ts x.0 x.1
tokens_sound ts x h = joined_sound h
