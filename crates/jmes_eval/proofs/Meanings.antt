-- What an expression means and weighs, by its cases.
use Rattle.std.proofs.Common.{◌≡◌, ◌<◌, ◌≤◌, ℕ, ◌+◌, zero, suc, true, List, [], ◌∷◌, map, length, drop, get_or, refl, sym, ap, ◌∙◌, arith}
use Rattle.json_doc.specs.declared.doc.Doc as doc
use Rattle.jmes_syntax.specs.declared.expr.Compared.{Compared}
use Rattle.jmes_syntax.specs.declared.expr.Expr.{Expr}
use Rattle.jmes_syntax.specs.declared.expr.Expr.TheOpen.{Expr-F}
use Rattle.jmes_syntax.specs.declared.expr.Expr.TheFolds.{fold-roll-Expr}
use Rattle.jmes_syntax.specs.declared.expr.Expr.TheVariants.{Pipe, Or, And, Compare, Operand, rolls-Pipe, rolls-Or, rolls-And, rolls-Compare, rolls-Operand}
use Rattle.jmes_syntax.specs.declared.expr.Operand.{Operand as OperandOf}
use Rattle.jmes_eval.specs.Meaning.{Meaning, meaning, meaning_step, piped, either, both, compare_of, operand_of}
use Rattle.jmes_eval.specs.Parts.{compared_with, operand_with}
use Rattle.jmes_eval.proofs.Mapped.{operand-same, compare-same}
use Rattle.jmes_eval.specs.Weights.{total, weight, weight_step, operand_weight, compared_weight}

pub meaning-Pipe : (es : List Expr) → meaning (Pipe es) ≡ piped (map meaning es)
meaning-Pipe es = ap meaning (sym (rolls-Pipe es)) ∙ fold-roll-Expr Meaning meaning_step (Expr-F.Pipe es)

pub meaning-Or : (es : List Expr) → meaning (Or es) ≡ either (map meaning es) doc.Null
meaning-Or es = ap meaning (sym (rolls-Or es)) ∙ fold-roll-Expr Meaning meaning_step (Expr-F.Or es)

pub meaning-And : (es : List Expr) → meaning (And es) ≡ both (map meaning es) (doc.Flag true)
meaning-And es = ap meaning (sym (rolls-And es)) ∙ fold-roll-Expr Meaning meaning_step (Expr-F.And es)

pub meaning-Operand : (o : OperandOf Expr) → meaning (Operand o) ≡ operand_of (operand_with meaning o)
meaning-Operand o = ap meaning (sym (rolls-Operand o)) ∙ fold-roll-Expr Meaning meaning_step (Expr-F.Operand o) ∙ ap meaning_step (operand-same meaning o)

pub meaning-Compare : (o : OperandOf Expr) (cs : List (Compared Expr)) → meaning (Compare o cs) ≡ compare_of (operand_with meaning o) (map (compared_with meaning) cs)
meaning-Compare o cs = ap meaning (sym (rolls-Compare o cs)) ∙ fold-roll-Expr Meaning meaning_step (Expr-F.Compare o cs) ∙ ap meaning_step (compare-same meaning o cs)

pub total-map : {A B : Type 0} (weigh : B → ℕ) (f : A → B) (xs : List A) → total weigh (map f xs) ≡ total (λ x. weigh (f x)) xs
total-map weigh f [] = refl
total-map weigh f (x ∷ xs) = ap (λ n. weigh (f x) + 6 + n) (total-map weigh f xs)

pub weight-Pipe : (es : List Expr) → weight (Pipe es) ≡ total weight es + 1
weight-Pipe es = ap weight (sym (rolls-Pipe es)) ∙ fold-roll-Expr ℕ weight_step (Expr-F.Pipe es) ∙ ap (λ n. n + 1) (total-map (λ n. n) weight es)

pub weight-Or : (es : List Expr) → weight (Or es) ≡ total weight es + 1
weight-Or es = ap weight (sym (rolls-Or es)) ∙ fold-roll-Expr ℕ weight_step (Expr-F.Or es) ∙ ap (λ n. n + 1) (total-map (λ n. n) weight es)

pub weight-And : (es : List Expr) → weight (And es) ≡ total weight es + 1
weight-And es = ap weight (sym (rolls-And es)) ∙ fold-roll-Expr ℕ weight_step (Expr-F.And es) ∙ ap (λ n. n + 1) (total-map (λ n. n) weight es)

pub weight-Operand : (o : OperandOf Expr) → weight (Operand o) ≡ operand_weight (operand_with weight o) + 1
weight-Operand o = ap weight (sym (rolls-Operand o)) ∙ fold-roll-Expr ℕ weight_step (Expr-F.Operand o) ∙ ap weight_step (operand-same weight o)

pub weight-Compare : (o : OperandOf Expr) (cs : List (Compared Expr)) → weight (Compare o cs) ≡ operand_weight (operand_with weight o) + total (λ c. compared_weight (compared_with weight c)) cs + 2
weight-Compare o cs =
    ap weight (sym (rolls-Compare o cs)) ∙ fold-roll-Expr ℕ weight_step (Expr-F.Compare o cs) ∙ ap weight_step (compare-same weight o cs)
    ∙ ap (λ n. operand_weight (operand_with weight o) + n + 2) (total-map compared_weight (compared_with weight) cs)

-- a part weighs less than all
pub total-at : {A : Type 0} (weigh : A → ℕ) (xs : List A) (i : ℕ) (x : A) → i < length xs → x ≡ get_or xs i x → weigh x + 6 ≤ total weigh xs
total-at weigh [] i x below is = absurd (omega arith)
total-at weigh (y ∷ ys) zero x below is = let same = ap weigh is in omega (arith, same)
total-at weigh (y ∷ ys) (suc i) x below is = let more = total-at weigh ys i x (omega arith) is in omega (arith, more)

-- a part and those behind it weigh less than all
pub total-drop : {A : Type 0} (weigh : A → ℕ) (xs : List A) (i : ℕ) (x : A) → i < length xs → x ≡ get_or xs i x → weigh x + 6 + total weigh (drop (i + 1) xs) ≤ total weigh xs
total-drop weigh [] i x below is = absurd (omega arith)
total-drop weigh (y ∷ ys) zero x below is = let same = ap weigh is in omega (arith, same)
total-drop weigh (y ∷ ys) (suc i) x below is = let more = total-drop weigh ys i x (omega arith) is in
    let next = ap (λ k. total weigh (drop k (y ∷ ys))) (let e : suc i + 1 ≡ suc (i + 1) = omega arith in e) in
    omega (arith, more, next)

-- the cases of meanings and weights
pub ruleset by_cases = (meaning-Pipe, meaning-Or, meaning-And, meaning-Compare, meaning-Operand, weight-Pipe, weight-Or, weight-And, weight-Operand, weight-Compare, total-map, total-at, total-drop)
