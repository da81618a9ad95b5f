use Rattle.json_doc.proofs.PassedTexts.{text_opens, judged}
use Rattle.json_doc.proofs.json_text.is_json_text.Goals as goal

pub returns-in-Ok : goal.returns-in-Ok
returns-in-Ok c = judged _ c.in-Ok.rest.now _ c.in-Ok.ensures.passed (rw c.skip_blanks.ensures.value at c.is_empty.ensures)

pub returns-in-Err-Syntax : goal.returns-in-Err-Syntax
returns-in-Err-Syntax c = λ is. (rw c.in-Err-Syntax.field-0-is at c.in-Err-Syntax.ensures.fault) (text_opens _ is)

pub returns-in-Err-TooDeep : goal.returns-in-Err-TooDeep
returns-in-Err-TooDeep c = λ is. (rw c.in-Err-TooDeep.field-0-is at c.in-Err-TooDeep.ensures.fault) (text_opens _ is)

pub returns-in-Err-NumberTooWide : goal.returns-in-Err-NumberTooWide
returns-in-Err-NumberTooWide c = λ is. (rw c.in-Err-NumberTooWide.field-0-is at c.in-Err-NumberTooWide.ensures.fault) (text_opens _ is)
