use Rattle.std.proofs.Common.{sym, ap, ◌∙◌}
use Rattle.jmes_eval.specs.Numbers.{or_null, parsed_in}
use Rattle.jmes_eval.proofs.NumberTexts.{text-found, text-none, text-other}
use Rattle.jmes_eval.proofs.numbers.parsed.Goals as goal

pub returns-then-not-is_bare : goal.returns-then-not-is_bare
returns-then-not-is_bare c =
    let bytes = c.as_bytes-bytes.ensures.value ∙ c.as_str.ensures.bytes in
    sym (ap (λ bs. or_null (parsed_in bs)) (sym bytes) ∙ ap or_null (text-other c.as_bytes-bytes.result.now (sym c.is_bare.ensures ∙ c.if-not-is_bare.true)))

pub returns-in-Ok : goal.returns-in-Ok
returns-in-Ok c =
    let bytes = c.as_bytes-bytes.ensures.value ∙ c.as_str.ensures.bytes in
    c.number_or_null.ensures ∙ sym (ap (λ bs. or_null (parsed_in bs)) (sym bytes) ∙ ap or_null (text-found c.as_bytes-bytes.result.now c.in-Ok.doc (sym c.is_bare.ensures ∙ c.if-not-is_bare.false) c.in-Ok.ensures.found))

pub returns-in-Err-Syntax : goal.returns-in-Err-Syntax
returns-in-Err-Syntax c =
    let bytes = c.as_bytes-bytes.ensures.value ∙ c.as_str.ensures.bytes in
    sym (ap (λ bs. or_null (parsed_in bs)) (sym bytes) ∙ ap or_null (text-none c.as_bytes-bytes.result.now (sym c.is_bare.ensures ∙ c.if-not-is_bare.false) (λ d r. let e = c.in-Err-Syntax.ensures.only d r in absurd cc)))

pub returns-in-Err-TooDeep : goal.returns-in-Err-TooDeep
returns-in-Err-TooDeep c =
    let bytes = c.as_bytes-bytes.ensures.value ∙ c.as_str.ensures.bytes in
    sym (ap (λ bs. or_null (parsed_in bs)) (sym bytes) ∙ ap or_null (text-none c.as_bytes-bytes.result.now (sym c.is_bare.ensures ∙ c.if-not-is_bare.false) (λ d r. let e = c.in-Err-TooDeep.ensures.only d r in absurd cc)))

pub returns-in-Err-NumberTooWide : goal.returns-in-Err-NumberTooWide
returns-in-Err-NumberTooWide c =
    let bytes = c.as_bytes-bytes.ensures.value ∙ c.as_str.ensures.bytes in
    sym (ap (λ bs. or_null (parsed_in bs)) (sym bytes) ∙ ap or_null (text-none c.as_bytes-bytes.result.now (sym c.is_bare.ensures ∙ c.if-not-is_bare.false) (λ d r. let e = c.in-Err-NumberTooWide.ensures.only d r in absurd cc)))
