use Rattle.std.proofs.Common.{◌≡◌, ap, ◌∙◌}
use Rattle.json_doc.specs.declared.read_fault.ReadFault.TheVariants.{OutOfMemory as NoMemory}
use Rattle.aws_main.specs.Output.{text_of_body}
use Rattle.aws_main.proofs.Finds.{finds_only}
use Rattle.aws_main.proofs.outputs.body_text.Goals as goal

pub returns-in-Ok-clause-only : goal.returns-in-Ok-clause-only
returns-in-Ok-clause-only c = λ text due.
    let members = c.args.members.now in
    finds_only (text_of_body members c.in-Ok.doc) c.document_text.result text c.document_text.ensures (ap (text_of_body members) (c.in-Ok.ensures.only due.0 due.1) ∙ due.2)

pub returns-in-Err-Syntax-clause-only : goal.returns-in-Err-Syntax-clause-only
returns-in-Err-Syntax-clause-only c = λ text due.
    let fault : c.in-Err-Syntax.field-0 ≡ NoMemory = c.in-Err-Syntax.ensures.only due.0 due.1 in
    cc (fault, c.in-Err-Syntax.field-0-is)

pub returns-in-Err-TooDeep-clause-only : goal.returns-in-Err-TooDeep-clause-only
returns-in-Err-TooDeep-clause-only c = λ text due.
    let fault : c.in-Err-TooDeep.field-0 ≡ NoMemory = c.in-Err-TooDeep.ensures.only due.0 due.1 in
    cc (fault, c.in-Err-TooDeep.field-0-is)

pub returns-in-Err-NumberTooWide-clause-only : goal.returns-in-Err-NumberTooWide-clause-only
returns-in-Err-NumberTooWide-clause-only c = λ text due.
    let fault : c.in-Err-NumberTooWide.field-0 ≡ NoMemory = c.in-Err-NumberTooWide.ensures.only due.0 due.1 in
    cc (fault, c.in-Err-NumberTooWide.field-0-is)
