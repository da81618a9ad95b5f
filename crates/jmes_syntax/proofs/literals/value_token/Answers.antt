use Rattle.std.proofs.Common.{Some, None}
use Rattle.jmes_syntax.specs.Literals.{name, literal, raw}
use Rattle.jmes_syntax.proofs.literals.value_token.Goals as goal

pub returns-in-Some : goal.returns-in-Some
returns-in-Some c =
    let value = rw (c.as_slice.ensures, c.in-Some.is) at c.in_ok-name-in-Name.ensures in
    rw c.in-Name.is (name {o = Some c.in-Some.name} value)

pub returns-in-Name : goal.returns-in-Name
returns-in-Name c =
    let value = rw (c.as_slice.ensures, c.in-None.is) at c.in_ok-name-in-Name.ensures in
    rw c.in-Name.is (name {o = None} value)

pub returns-in-Some-2 : goal.returns-in-Some-2
returns-in-Some-2 c =
    let value = rw (c.as_slice-in-Literal.ensures, c.in-Some-2.is) at c.in_ok-doc-in-Literal.ensures in
    rw c.in-Literal.is (literal {o = Some c.in-Some-2.doc} value)

pub returns-in-Literal : goal.returns-in-Literal
returns-in-Literal c =
    let value = rw (c.as_slice-in-Literal.ensures, c.in-None-2.is) at c.in_ok-doc-in-Literal.ensures in
    rw c.in-Literal.is (literal {o = None} value)

pub returns-in-Some-3 : goal.returns-in-Some-3
returns-in-Some-3 c =
    let value = rw (c.as_slice-in-Raw.ensures, c.in-Some-3.is) at c.in_ok-text-in-Raw.ensures in
    rw c.in-Raw.is (raw {o = Some c.in-Some-3.text} value)

pub returns : goal.returns
returns c =
    let value = rw (c.as_slice-in-Raw.ensures, c.in-None-3.is) at c.in_ok-text-in-Raw.ensures in
    rw c.in-Raw.is (raw {o = None} value)
