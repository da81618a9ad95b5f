use Rattle.std.proofs.Common.{◌++◌, sym, ap, ◌∙◌, append_assoc}
use Rattle.std.specs.Prelude.{codes}
use Rattle.std.specs.Fmt.{decimal}
use Rattle.resp_parser.specs.FaultTexts.{retries_text}
use Rattle.resp_parser.proofs.fault_texts.push_retries.Goals as goal

pub returns : goal.returns
returns c =
    let old = c.args.text.now in
    let lit = codes " (reached max retries: " in
    let number = decimal c.in-Some.number in
    let second = c.in_ok-push_number.ensures ∙ ap (λ t. t ++ number) c.in_ok-push_ascii.ensures.ok in
    let third = c.in_ok-push_ascii-2.ensures.ok ∙ ap (λ t. t ++ codes ")") second in
    third ∙ ap (λ t. t ++ codes ")") (append_assoc old lit number) ∙ append_assoc old (lit ++ number) (codes ")") ∙ ap (λ o. old ++ retries_text o) (sym c.in-Some.is)
