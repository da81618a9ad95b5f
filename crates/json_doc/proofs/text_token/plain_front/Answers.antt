use Rattle.std.proofs.Common.{sym, subst}
use Rattle.std.specs.Str.{IsUtf8, IsValidUpTo}
use Rattle.json_doc.proofs.TextSteps.{text_at-run, text_at-run_front}
use Rattle.json_doc.proofs.text_token.plain_front.Goals as goal

pub returns-in-Ok-clause-read : goal.returns-in-Ok-clause-read
returns-in-Ok-clause-read c =
    let n = c.run_len.result in
    let bytes = c.args.bytes.now in
    let run = text_at-run bytes n c.run_len.ensures.within c.run_len.ensures.plain (subst IsUtf8 c.split_at.ensures.front c.in-Ok.ensures.cases.1) in
    rw (c.in-Ok.ensures.cases.0, c.split_at.ensures.front, c.split_at.ensures.back) run

pub returns-in-Err-clause-read : goal.returns-in-Err-clause-read
returns-in-Err-clause-read c =
    let bytes = c.args.bytes.now in
    let run = subst (λ r. IsValidUpTo r c.valid_up_to.result) c.split_at.ensures.front (subst (IsValidUpTo c.split_at.result.0.now) (sym c.valid_up_to.ensures) c.in-Err.ensures.cases.1) in
    rw (c.utf8_front.ensures.front, c.utf8_front.ensures.back)
    (text_at-run_front bytes c.run_len.result c.valid_up_to.result c.run_len.ensures.within c.run_len.ensures.plain run)
