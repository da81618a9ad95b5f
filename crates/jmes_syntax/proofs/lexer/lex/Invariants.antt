use Rattle.std.proofs.Common.{ℕ, List, ◌++◌, length}
use Rattle.json_doc.specs.Scan.{skipped}
use Rattle.jmes_syntax.specs.declared.token.Token.{Token}
use Rattle.jmes_syntax.specs.Lexing.{Lexes}
use Rattle.jmes_syntax.proofs.lexer.lex.Given as goal

-- the tokens so far, and those of the rest
abbrev pub invariant-loop-lefts : goal.invariant-loop-lefts
invariant-loop-lefts l =
    (ts : List Token) (lefts : List ℕ) (left : ℕ) → Lexes l.rest ts lefts left → Lexes (skipped l.fn.bytes) (l.tokens ++ ts) (l.lefts ++ lefts) left

abbrev pub decreases-loop-lefts : goal.decreases-loop-lefts
decreases-loop-lefts l = length l.rest
