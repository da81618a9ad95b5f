-- A text that is an expression of the grammar is read as this, and what is read of a text is that.
use Rattle.std.proofs.Common.{◌≡◌, ℕ, ◌==◌, Bool, true, false, List, [], ◌∷◌, Ok, Err, encode_utf8_all, refl, sym, subst}
use Rattle.std.proofs.lemmas.Bool.{eqb-true}
use Rattle.json_doc.specs.Scan.{skipped}
use Rattle.jmes_syntax.specs.declared.expr.Expr.{Expr}
use Rattle.jmes_syntax.specs.declared.reader.Level.TheVariants as level
use Rattle.jmes_syntax.specs.declared.token.Token.{Token}
use Rattle.jmes_syntax.specs.Grammar.{ExpressionAt, Expression}
use Rattle.jmes_syntax.specs.Lexing.{Lexes}
use Rattle.jmes_syntax.specs.Scans.{ended, Whole, Scans}
use Rattle.jmes_syntax.proofs.GrammarComplete.{tokens_complete}
use Rattle.jmes_syntax.proofs.GrammarSound.{tokens_sound}

ended-is : (is_end : Bool) (d : Expr) (ts : List Token) (e : Expr) → ended is_end d ts ≡ Ok e → (is_end ≡ true) × (d ≡ e) × (ts ≡ [])
ended-is is_end d (t ∷ ts) e h = absurd cc
ended-is true d [] e h = (refl, cc, refl)
ended-is false d [] e h = absurd cc

whole-is : (ts : List Token) (is_end : Bool) (e : Expr) → Whole ts is_end (Ok e) → (is_end ≡ true) × ExpressionAt level.Pipe 0 ts e []
whole-is ts is_end e (Err stop, h, f) = absurd cc
whole-is ts is_end e (Ok x, h, f) =
    let last = ended-is is_end x.0 x.1 e (sym f) in
    (last.0, subst (ExpressionAt level.Pipe 0 ts e) last.2 (subst (λ d. ExpressionAt level.Pipe 0 ts d x.1) last.1 (tokens_sound ts x h)))

pub text_sound : (text : List ℕ) (e : Expr) → Scans (encode_utf8_all text) (Ok e) → Expression text e
text_sound text e s =
    let whole = whole-is s.tokens (s.left == 0) e s.read in
    (s.tokens, s.lefts, subst (Lexes (skipped (encode_utf8_all text)) s.tokens s.lefts) (eqb-true s.left 0 whole.0) s.lexed, whole.1)

pub text_complete : (text : List ℕ) (e : Expr) → Expression text e → Scans (encode_utf8_all text) (Ok e)
text_complete text e (ts, lefts, lexes, h) = record { tokens = ts; lefts = lefts; left = 0; lexed = lexes; read = (Ok (e, []), tokens_complete ts e h, refl) }
