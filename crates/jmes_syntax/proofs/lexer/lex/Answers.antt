use Rattle.std.proofs.Common.{[], arith, append_assoc, append-nil}
use Rattle.jmes_syntax.specs.Lexing.{Lexes}
use Rattle.jmes_syntax.proofs.LexLengths.{token-below}
use Rattle.jmes_syntax.proofs.lexer.lex.Goals as goal

pub returns-in_default : goal.returns-in_default
returns-in_default c =
    let last = c.loop-lefts.invariant [] [] _ (Lexes.no_more (rw c.in_default.is at c.in_ok-token.ensures)) in
    rw (append-nil, append-nil) at last

pub loop-lefts-smaller : goal.loop-lefts-smaller
loop-lefts-smaller c =
    let token = rw c.in-Some.is at c.in_ok-token.ensures in
    omega (arith, token-below token, c.skip_blanks-rest-in-loop-lefts.ensures.within)

pub loop-lefts-preserved : goal.loop-lefts-preserved
loop-lefts-preserved c = λ ts lefts left more.
    let token = rw c.in-Some.is at c.in_ok-token.ensures in
    let all = c.loop-lefts.invariant _ _ left (Lexes.more token (rw c.skip_blanks-rest-in-loop-lefts.ensures.value at more)) in
    rw (c.in_ok-push.ensures.ok, c.in_ok-push-2.ensures.ok, append_assoc, append_assoc) all
