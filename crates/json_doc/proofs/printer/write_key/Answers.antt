use Rattle.std.proofs.Common.{◌++◌, refl, ap, ◌∙◌}
use Rattle.std.specs.Prelude.{codes}
use Rattle.json_doc.specs.Escapes.{quoted}
use Rattle.json_doc.specs.Layouts.{key_text}
use Rattle.json_doc.proofs.Literals.{chars-colon}
use Rattle.json_doc.proofs.Places.{appended}
use Rattle.json_doc.proofs.ProperDocuments.{text_from}
use Rattle.json_doc.proofs.printer.write_key.Goals as goal

pub returns-clause-text : goal.returns-clause-text
returns-clause-text c =
    let key = c.args.key.now in
    let first = c.in_ok-push_quoted.ensures ∙ ap (λ k. c.args.out.now ++ quoted c.args.layout k) c.as_str.ensures.value in
    let whole = appended c.args.out.now c.push_quoted.new.out (quoted c.args.layout key) (codes ": ") (key_text c.args.layout key) first refl in
    rw (chars-colon, whole) at c.push_str.ensures.ok

pub returns-clause-key : goal.returns-clause-key
returns-clause-key c = text_from c.args.key.now c.as_str.result.now c.as_str.utf8 c.as_str.ensures.value

pub returns-in_err-push_quoted-clause-key : goal.returns-in_err-push_quoted-clause-key
returns-in_err-push_quoted-clause-key c = text_from c.args.key.now c.as_str.result.now c.as_str.utf8 c.as_str.ensures.value
