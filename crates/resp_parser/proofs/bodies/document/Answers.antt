use Rattle.resp_parser.proofs.bodies.document.Goals as goal

pub returns-in-Err-Syntax : goal.returns-in-Err-Syntax
returns-in-Err-Syntax c = λ d reads. let none = rw c.in-Err-Syntax.field-0-is at (c.in-Err-Syntax.ensures.only d reads) in absurd cc

pub returns-in-Err-TooDeep : goal.returns-in-Err-TooDeep
returns-in-Err-TooDeep c = λ d reads. let none = rw c.in-Err-TooDeep.field-0-is at (c.in-Err-TooDeep.ensures.only d reads) in absurd cc

pub returns-in-Err-NumberTooWide : goal.returns-in-Err-NumberTooWide
returns-in-Err-NumberTooWide c = λ d reads. let none = rw c.in-Err-NumberTooWide.field-0-is at (c.in-Err-NumberTooWide.ensures.only d reads) in absurd cc
