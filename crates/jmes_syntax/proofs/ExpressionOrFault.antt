-- A text is an expression or has a fault.
use Rattle.std.proofs.Common.{ℕ, ◌-◌, ◌==◌, Bool, true, false, ◌⊎◌, inl, inr, List, [], ◌∷◌, length, Result, Ok, Err, encode_utf8_all, refl, subst, arith}
use Rattle.json_doc.specs.Scan.{skipped}
use Rattle.jmes_syntax.specs.declared.expr.Expr.{Expr}
use Rattle.jmes_syntax.specs.declared.parse_fault.ParseFault.{ParseFault}
use Rattle.jmes_syntax.specs.declared.parse_fault.ParseFault.TheVariants as fault
use Rattle.jmes_syntax.specs.declared.stop.Stop.{Stop}
use Rattle.jmes_syntax.specs.declared.stop.Stop.TheVariants as stop
use Rattle.jmes_syntax.specs.declared.token.Token.{Token}
use Rattle.jmes_syntax.specs.Grammar.{Expression}
use Rattle.jmes_syntax.specs.Lexing.{Lexes}
use Rattle.texts.specs.Calls.{◌>>=◌}
use Rattle.jmes_syntax.specs.Scans.{ended, left_at, Scans, IsPlaced, HasFault}
use Rattle.jmes_syntax.proofs.GrammarOfTexts.{text_sound}
use Rattle.jmes_syntax.proofs.LexEnds.{lex_ends}
use Rattle.jmes_syntax.proofs.ReadEnds.{IsReal, Real, bind-real, read_ends}
use Rattle.jmes_syntax.proofs.Texts.{scans_of, stop-bytes}

ended-real : (is_end : Bool) (e : Expr) (ts : List Token) → Real (ended is_end e ts)
ended-real is_end e (t ∷ ts) = tt
ended-real true e [] = tt
ended-real false e [] = tt

-- a reason has a place
placed : (bytes : List ℕ) (ts : List Token) (lefts : List ℕ) (left : ℕ) → Lexes (skipped bytes) ts lefts left → (s : Stop) → IsReal s → (f : ParseFault) × IsPlaced lefts left (length bytes) s f
placed bytes ts lefts left lexed (stop.Syntax n) real =
    let at : ℕ = length bytes - left_at lefts left n in (fault.Syntax at, (at, refl, omega (arith, stop-bytes bytes ts lefts left n lexed)))
placed bytes ts lefts left lexed (stop.UnknownFunction n) real =
    let at : ℕ = length bytes - left_at lefts left n in (fault.UnknownFunction at, (at, refl, omega (arith, stop-bytes bytes ts lefts left n lexed)))
placed bytes ts lefts left lexed (stop.Arity n) real =
    let at : ℕ = length bytes - left_at lefts left n in (fault.Arity at, (at, refl, omega (arith, stop-bytes bytes ts lefts left n lexed)))
placed bytes ts lefts left lexed stop.OutOfMemory real = absurd real

has_fault : (text : List ℕ) (s : Stop) → Scans (encode_utf8_all text) (Err s) → IsReal s → (f : ParseFault) × HasFault text f
has_fault text s scans real =
    let p = placed (encode_utf8_all text) scans.tokens scans.lefts scans.left scans.lexed s real in
    (p.0, record { reason = s; stops = scans; real = (λ e. subst IsReal e real); placed = p.1 })

outcome : (text : List ℕ) (r : Result Expr Stop) → Scans (encode_utf8_all text) r → Real r → ((e : Expr) × Expression text e) ⊎ ((f : ParseFault) × HasFault text f)
outcome text (Ok e) scans real = inl (e, text_sound text e scans)
outcome text (Err s) scans real = inr (has_fault text s scans real)

pub expression_or_fault : (text : List ℕ) → ((e : Expr) × Expression text e) ⊎ ((f : ParseFault) × HasFault text f)
expression_or_fault text =
    let bytes : List ℕ = encode_utf8_all text in
    let lex = lex_ends (skipped bytes) in
    let r = read_ends lex.tokens in
    outcome text (r.outcome >>= (λ x. ended (lex.left == 0) x.0 x.1)) (scans_of bytes lex.tokens lex.lefts lex.left _ lex.lexed (r.outcome, r.is, refl))
    (bind-real r.outcome (λ x. ended (lex.left == 0) x.0 x.1) r.real (λ x. ended-real (lex.left == 0) x.0 x.1))
