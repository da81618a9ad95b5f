use Rattle.std.proofs.Common.{Ok, refl, subst, ◌∙◌}
use Rattle.json_doc.specs.declared.read_fault.ReadFault.TheVariants.{Syntax, TooDeep, NumberTooWide}
use Rattle.json_doc.specs.Grammar.{Reads}
use Rattle.shape_values.proofs.Refused.{refused}
use Rattle.shape_values.proofs.text_values.document_in.Goals as goal

pub returns-in-Ok : goal.returns-in-Ok
returns-in-Ok c =
    let same = c.as_bytes.ensures.value ∙ c.as_str.ensures.bytes in
    (Ok c.in-Ok.doc, subst (λ bs. Reads bs c.in-Ok.doc) same c.in-Ok.ensures.found, refl)

pub returns-in-Err-Syntax : goal.returns-in-Err-Syntax
returns-in-Err-Syntax c =
    refused c.args.text.now c.as_bytes.result.now c.in-Err-Syntax.field-0 (Syntax c.in-Err-Syntax.at) c.here.result (c.as_bytes.ensures.value ∙ c.as_str.ensures.bytes)
    c.in-Err-Syntax.field-0-is c.in-Err-Syntax.ensures.fault (λ none. absurd (cc)) c.here.ensures

pub returns-in-Err-TooDeep : goal.returns-in-Err-TooDeep
returns-in-Err-TooDeep c =
    refused c.args.text.now c.as_bytes.result.now c.in-Err-TooDeep.field-0 (TooDeep c.in-Err-TooDeep.at) c.here-in-Err-TooDeep.result (c.as_bytes.ensures.value ∙ c.as_str.ensures.bytes)
    c.in-Err-TooDeep.field-0-is c.in-Err-TooDeep.ensures.fault (λ none. absurd (cc)) c.here-in-Err-TooDeep.ensures

pub returns-in-Err-NumberTooWide : goal.returns-in-Err-NumberTooWide
returns-in-Err-NumberTooWide c =
    refused c.args.text.now c.as_bytes.result.now c.in-Err-NumberTooWide.field-0 (NumberTooWide c.in-Err-NumberTooWide.at) c.here-in-Err-NumberTooWide.result
    (c.as_bytes.ensures.value ∙ c.as_str.ensures.bytes) c.in-Err-NumberTooWide.field-0-is c.in-Err-NumberTooWide.ensures.fault (λ none. absurd (cc)) c.here-in-Err-NumberTooWide.ensures
