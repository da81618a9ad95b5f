use Rattle.std.proofs.Common.{◌≡◌}
use Rattle.json_doc.specs.declared.read_fault.ReadFault.TheVariants.{OutOfMemory as NoMemory}
use Rattle.model_store.proofs.contents.read_document.Goals as goal

pub returns-in-Err-Syntax-clause-none : goal.returns-in-Err-Syntax-clause-none
returns-in-Err-Syntax-clause-none c = λ doc reads.
    let fault : c.in-Err-Syntax.field-0 ≡ NoMemory = c.in-Err-Syntax.ensures.only doc reads in
    cc (fault, c.in-Err-Syntax.field-0-is)

pub returns-in-Err-TooDeep-clause-none : goal.returns-in-Err-TooDeep-clause-none
returns-in-Err-TooDeep-clause-none c = λ doc reads.
    let fault : c.in-Err-TooDeep.field-0 ≡ NoMemory = c.in-Err-TooDeep.ensures.only doc reads in
    cc (fault, c.in-Err-TooDeep.field-0-is)

pub returns-in-Err-NumberTooWide-clause-none : goal.returns-in-Err-NumberTooWide-clause-none
returns-in-Err-NumberTooWide-clause-none c = λ doc reads.
    let fault : c.in-Err-NumberTooWide.field-0 ≡ NoMemory = c.in-Err-NumberTooWide.ensures.only doc reads in
    cc (fault, c.in-Err-NumberTooWide.field-0-is)
