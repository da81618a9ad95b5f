use Rattle.std.proofs.lemmas.Result.{IfOk-weaker}
use Rattle.jmes_syntax.specs.Literals.{StringOf, BareOf, unquoted, beyond_limits}
use Rattle.jmes_syntax.proofs.literals.bare_of.Goals as goal

pub returns-then-branch : goal.returns-then-branch
returns-then-branch c = beyond_limits (rw c.if-branch.true at c.in_ok-is_json_text.ensures)

pub returns : goal.returns
returns c =
    let other = rw c.if-branch.false at c.in_ok-is_json_text.ensures in
    IfOk-weaker c.string_of.result (StringOf c.skip_blanks.result.now) (BareOf c.args.text.now) (λ o string. unquoted other (rw c.skip_blanks.ensures.value at string)) c.string_of.ensures
