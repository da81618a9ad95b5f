-- A text is an expression or has one fault.
use Rattle.std.proofs.Common.{◌≡◌, ℕ, ◌≤◌, ◌==◌, Bool, true, false, List, [], ◌∷◌, length, Result, Ok, Err, ◌⊎◌, inl, inr, sym, ap, subst, ◌∙◌, arith}
use Rattle.json_doc.proofs.Shorter.{skipped-le}
use Rattle.json_doc.specs.Scan.{skipped}
use Rattle.jmes_syntax.specs.declared.expr.Expr.{Expr}
use Rattle.jmes_syntax.specs.declared.parse_fault.ParseFault.{ParseFault}
use Rattle.jmes_syntax.specs.declared.parse_fault.ParseFault.TheVariants as fault
use Rattle.jmes_syntax.specs.declared.stop.Stop.{Stop}
use Rattle.jmes_syntax.specs.declared.stop.Stop.TheVariants as stop
use Rattle.jmes_syntax.specs.declared.token.Token.{Token}
use Rattle.jmes_syntax.specs.Lexing.{Lexes}
use Rattle.jmes_syntax.specs.Reading.{Stops, left_of}
use Rattle.texts.specs.Calls.{◌>>=◌}
use Rattle.jmes_syntax.specs.Scans.{ended, Whole, left_at, Scans, IsPlaced, HasFaultIn}
use Rattle.jmes_syntax.proofs.Lengths.{joined-within}
use Rattle.jmes_syntax.proofs.LexLengths.{left_at-le}
use Rattle.jmes_syntax.proofs.LexOnce.{AreSame, lexes_once}
use Rattle.jmes_syntax.proofs.Once.{joined_again}

whole_once : (ts : List Token) (is_end : Bool) (r s : Result Expr Stop) → Whole ts is_end r → Whole ts is_end s → r ≡ s
whole_once ts is_end r s (o, a, e) (p, b, f) = e ∙ ap (λ q. q >>= (λ x. ended is_end x.0 x.1)) (joined_again b o a) ∙ sym f

scans_same : (bytes : List ℕ) (r s : Result Expr Stop) (a : Scans bytes r) (b : Scans bytes s) → AreSame a.tokens a.lefts a.left b.tokens b.lefts b.left
scans_same bytes r s a b = lexes_once a.lexed b.tokens b.lefts b.left b.lexed

pub scans_once : (bytes : List ℕ) (r s : Result Expr Stop) → Scans bytes r → Scans bytes s → r ≡ s
scans_once bytes r s a b =
    let same = scans_same bytes r s a b in
    whole_once a.tokens (a.left == 0) r s a.read (subst (λ l. Whole a.tokens (l == 0) s) same.left (subst (λ ts. Whole ts (b.left == 0) s) same.tokens b.read))

-- one reason has one place
placed_once : (lefts : List ℕ) (left total : ℕ) (reason : Stop) (f g : ParseFault) → IsPlaced lefts left total reason f → IsPlaced lefts left total reason g → f ≡ g
placed_once lefts left total (stop.Syntax n) f g (a, e, h) (b, k, i) = let same : a ≡ b = omega arith in e ∙ ap fault.Syntax same ∙ sym k
placed_once lefts left total (stop.UnknownFunction n) f g (a, e, h) (b, k, i) = let same : a ≡ b = omega arith in e ∙ ap fault.UnknownFunction same ∙ sym k
placed_once lefts left total (stop.Arity n) f g (a, e, h) (b, k, i) = let same : a ≡ b = omega arith in e ∙ ap fault.Arity same ∙ sym k
placed_once lefts left total stop.OutOfMemory f g e k = e ∙ sym k

err_same : (s t : Stop) → ◌≡◌ {A = Result Expr Stop} (Err s) (Err t) → s ≡ t
err_same s t e = cc

pub one_fault : (bytes : List ℕ) (f g : ParseFault) → HasFaultIn bytes f → HasFaultIn bytes g → f ≡ g
one_fault bytes f g a b =
    let same = scans_same bytes _ _ a.stops b.stops in
    let reason : b.reason ≡ a.reason = err_same b.reason a.reason (scans_once bytes _ _ b.stops a.stops) in
    let placed = subst (λ s. IsPlaced b.stops.lefts b.stops.left (length bytes) s g) reason b.placed in
    let lefts = subst (λ ls. IsPlaced ls b.stops.left (length bytes) a.reason g) same.lefts placed in
    placed_once a.stops.lefts a.stops.left (length bytes) a.reason f g a.placed (subst (λ l. IsPlaced a.stops.lefts l (length bytes) a.reason g) same.left lefts)

pub no_fault : (bytes : List ℕ) (e : Expr) (f : ParseFault) → Scans bytes (Ok e) → HasFaultIn bytes f → ⊥
no_fault bytes e f a b = let same = scans_once bytes _ _ a b.stops in absurd cc

-- What a call of the parser answers.

abbrev pub scans_of : (bytes : List ℕ) (ts : List Token) (lefts : List ℕ) (left : ℕ) (r : Result Expr Stop) → Lexes (skipped bytes) ts lefts left → Whole ts (left == 0) r → Scans bytes r
scans_of bytes ts lefts left r lexes whole = record { tokens = ts; lefts = lefts; left = left; lexed = lexes; read = whole }

ended-left : (is_end : Bool) (e : Expr) (ts : List Token) (s : Stop) → ended is_end e ts ≡ Err s → left_of s ≤ length ts
ended-left is_end e (t ∷ ts) s h = let same : stop.Syntax (length (t ∷ ts)) ≡ s = cc in subst (λ r. left_of r ≤ length (t ∷ ts)) same (omega arith)
ended-left true e [] s h = absurd cc
ended-left false e [] s h = let same : stop.Syntax 0 ≡ s = cc in subst (λ r. left_of r ≤ 0) same (omega arith)

pub whole-left : (ts : List Token) (is_end : Bool) (s : Stop) → Whole ts is_end (Err s) → left_of s ≤ length ts
whole-left ts is_end s (Err t, a, e) = let same : t ≡ s = cc in subst (λ r. left_of r ≤ length ts) same (joined-within a)
whole-left ts is_end s (Ok x, a, e) = let le = joined-within a in let more = ended-left is_end x.0 x.1 s (sym e) in omega arith

pub stop-left : (ts : List Token) (is_end : Bool) (s : Stop) → Stops (λ r. Whole ts is_end (Err r)) s → left_of s ≤ length ts
stop-left ts is_end (stop.Syntax n) h = whole-left ts is_end (stop.Syntax n) h
stop-left ts is_end (stop.UnknownFunction n) h = whole-left ts is_end (stop.UnknownFunction n) h
stop-left ts is_end (stop.Arity n) h = whole-left ts is_end (stop.Arity n) h
stop-left ts is_end stop.OutOfMemory h = omega arith

pub stop-bytes : (bytes : List ℕ) (ts : List Token) (lefts : List ℕ) (left n : ℕ) → Lexes (skipped bytes) ts lefts left → left_at lefts left n ≤ length bytes
stop-bytes bytes ts lefts left n lexes = omega (arith, left_at-le lexes n, skipped-le bytes)

-- a reason that isn't want of memory gives a fault
pub stopped : (bytes : List ℕ) (ts : List Token) (lefts : List ℕ) (left : ℕ) (s : Stop) (f : ParseFault) → Lexes (skipped bytes) ts lefts left
    → Stops (λ r. Whole ts (left == 0) (Err r)) s → IsPlaced lefts left (length bytes) s f → (f ≡ fault.OutOfMemory) ⊎ HasFaultIn bytes f
stopped bytes ts lefts left (stop.Syntax n) f lexes h placed =
    inr (record { reason = stop.Syntax n; stops = scans_of bytes ts lefts left (Err (stop.Syntax n)) lexes h; real = (λ e. absurd cc); placed = placed })
stopped bytes ts lefts left (stop.UnknownFunction n) f lexes h placed =
    inr (record { reason = stop.UnknownFunction n; stops = scans_of bytes ts lefts left (Err (stop.UnknownFunction n)) lexes h; real = (λ e. absurd cc); placed = placed })
stopped bytes ts lefts left (stop.Arity n) f lexes h placed =
    inr (record { reason = stop.Arity n; stops = scans_of bytes ts lefts left (Err (stop.Arity n)) lexes h; real = (λ e. absurd cc); placed = placed })
stopped bytes ts lefts left stop.OutOfMemory f lexes h placed = inl placed
