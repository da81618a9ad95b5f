use Rattle.std.proofs.Common.{◌++◌, ap, ◌∙◌}
use Rattle.std.specs.Prelude.{codes}
use Rattle.resp_parser.specs.FaultTexts.{retries_text}
use Rattle.resp_parser.proofs.fault_texts.service_text.Goals as goal

pub returns : goal.returns
returns c =
    let error = c.args.error.now in
    let begun = c.in_ok-push_ascii.ensures.ok ∙ ap (λ t. t ++ codes "An error occurred (") c.new-text.ensures in
    let coded = c.in_ok-push_str.ensures.ok ∙ ap (λ cs. c.push_ascii.new.self ++ cs) c.as_str.ensures.value ∙ ap (λ t. t ++ error.code) begun in
    let calling = c.in_ok-push_ascii-2.ensures.ok ∙ ap (λ t. t ++ codes ") when calling the ") coded in
    let named = c.in_ok-push_str-2.ensures.ok ∙ ap (λ cs. c.push_ascii-2.new.self ++ cs) c.as_str-2.ensures.value ∙ ap (λ t. t ++ c.args.operation.now) calling in
    let told = c.in_ok-push_ascii-3.ensures.ok ∙ ap (λ t. t ++ codes " operation") named in
    let retried = c.in_ok-push_retries.ensures ∙ ap (λ t. t ++ retries_text error.retries) told in
    let parted = c.in_ok-push_ascii-4.ensures.ok ∙ ap (λ t. t ++ codes ": ") retried in
    c.in_ok-push_str-3.ensures.ok ∙ ap (λ cs. c.push_ascii-4.new.self ++ cs) c.as_str-3.ensures.value ∙ ap (λ t. t ++ error.message) parted
