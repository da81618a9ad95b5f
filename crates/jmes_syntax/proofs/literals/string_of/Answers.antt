use Rattle.json_doc.specs.declared.doc.Doc as doc
use Rattle.jmes_syntax.specs.Literals.{no_string}
use Rattle.jmes_syntax.proofs.LiteralValues.{is_document, none_document, StringOf-from}
use Rattle.jmes_syntax.proofs.literals.string_of.Goals as goal

pub returns-in-Some : goal.returns-in-Some
returns-in-Some c =
    let found = rw (c.in-Some.is, c.as_slice.ensures, c.in_ok-quoted.ensures) at c.in_ok-doc.ensures in
    StringOf-from c.args.inside.now c.in-Some.doc c.into_text.result (is_document found) c.into_text.ensures.some c.into_text.ensures.none

pub returns : goal.returns
returns c =
    let none = rw (c.in-None.is, c.as_slice.ensures, c.in_ok-quoted.ensures) at c.in_ok-doc.ensures in
    no_string (λ t reads. none_document none (doc.Str t) reads)
