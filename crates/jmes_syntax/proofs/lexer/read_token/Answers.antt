use Rattle.std.proofs.Common.{◌≡◌, rules, drop, sym, subst}
use Rattle.std.proofs.lemmas.Result.{IfOk-weaker}
use Rattle.jmes_syntax.specs.declared.token.Token.TheVariants as token
use Rattle.jmes_syntax.specs.Lexing.{tokened, DelimitedAt, TokenAt}
use Rattle.jmes_syntax.specs.Reading.{seen}
use Rattle.jmes_syntax.proofs.lexer.read_token.Goals as goal

pub returns-in_ok-name-in-Name : goal.returns-in_ok-name-in-Name
returns-in_ok-name-in-Name c = rw (c.in_ok-name-in-Name.ensures.0, c.in_ok-name-in-Name.ensures.1) (TokenAt.name (sym c.in-Name.ensures))

pub returns-in-Some : goal.returns-in-Some
returns-in-Some c = subst (λ o. TokenAt c.args.bytes.now (tokened token.Number o)) c.in-Some.ensures (TokenAt.number (sym c.in-Number.ensures))

pub returns-in-None : goal.returns-in-None
returns-in-None c = subst (λ o. TokenAt c.args.bytes.now (tokened token.Number o)) c.in-None.ensures (TokenAt.number (sym c.in-Number.ensures))

pub returns-in-Some-split_first : goal.returns-in-Some-split_first
returns-in-Some-split_first c =
    let behind : c.in-Some-split_first.rest.now ≡ drop 1 c.args.bytes.now = search rules in
    IfOk-weaker _ _ _ (λ o at. TokenAt.between (sym c.in-Delimited.ensures) (subst (λ bs. DelimitedAt c.in-Delimited.quote bs (seen (λ x. (x.0, x.1.now)) o)) behind at)) c.read_delimited.ensures

pub returns-in-Some-mark_at : goal.returns-in-Some-mark_at
returns-in-Some-mark_at c = subst (λ o. TokenAt c.args.bytes.now (tokened token.Mark o)) c.in-Some-mark_at.ensures (TokenAt.mark (sym c.in-Mark.ensures))

pub returns-in-None-mark_at : goal.returns-in-None-mark_at
returns-in-None-mark_at c = subst (λ o. TokenAt c.args.bytes.now (tokened token.Mark o)) c.in-None-mark_at.ensures (TokenAt.mark (sym c.in-Mark.ensures))
