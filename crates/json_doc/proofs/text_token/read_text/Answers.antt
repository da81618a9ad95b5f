use Rattle.std.proofs.Common.{◌≡◌, Ok, Err, sym, ap, ◌∙◌, arith}
use Rattle.std.proofs.lemmas.Result.{err_from_is_err_and}
use Rattle.json_doc.specs.Reading.{Stops}
use Rattle.json_doc.specs.TextToken.{text_at}
use Rattle.json_doc.proofs.TokenParts.{ok_same, Stops-from, Stops-read}
use Rattle.json_doc.proofs.TextScans.{text_at_ok, text_at-spelled}
use Rattle.json_doc.proofs.TextSteps.{text_at-closed, text_at-further, text_at-stopped}
use Rattle.json_doc.proofs.text_token.read_text.Goals as goal
use Rattle.json_doc.proofs.text_token.read_text.Goals.{In-Some, In_err-c}

whole : (c : In-Some) → text_at c.args.bytes.now ≡ Ok (c.push_str.new.self, c.in-Some.behind.now)
whole c = text_at-closed _ _ _ _ _ _ _ c.loop-text.invariant.0 c.plain_front.ensures.read c.in-Some.ensures c.in_ok-push_str.ensures.ok

pub returns-in-Some-clause-read : goal.returns-in-Some-clause-read
returns-in-Some-clause-read c = whole (goal.at.returns-in-Some-clause-read c).In-Some

pub returns-in-Some-clause-spelled : goal.returns-in-Some-clause-spelled
returns-in-Some-clause-spelled c = text_at_ok _ _ (whole (goal.at.returns-in-Some-clause-spelled c).In-Some)

pub returns-in-Some-clause-only : goal.returns-in-Some-clause-only
returns-in-Some-clause-only c = λ text rest spelled.
    let same = ok_same _ _ (sym (whole (goal.at.returns-in-Some-clause-only c).In-Some) ∙ text_at-spelled _ text rest spelled) in
    (ap (λ x. x.0) same, ap (λ x. x.1) same)

-- a fault of the character is the text's
stopped : (c : In_err-c) → Stops (λ stop. text_at c.args.bytes.now ≡ Err stop) c.in_err-c.field-0.0
stopped c =
    Stops-from (λ stop. text_at c.args.bytes.now ≡ Err stop) c.in_err-c.field-0.0 (text_at-stopped _ _ _ _ _ _ c.loop-text.invariant.0 c.plain_front.ensures.read c.in_default.ensures c.in_err-c.ensures.read)

pub returns-in_err-c-clause-fault : goal.returns-in_err-c-clause-fault
returns-in_err-c-clause-fault c =
    let p = err_from_is_err_and c.from_residual-in_err-c.result c.from_residual-in_err-c.ensures.1 in
    rw (p.1, p.2) (stopped (goal.at.returns-in_err-c-clause-fault c).In_err-c)

pub returns-in_err-c-clause-only : goal.returns-in_err-c-clause-only
returns-in_err-c-clause-only c = λ text rest spelled.
    let p = err_from_is_err_and c.from_residual-in_err-c.result c.from_residual-in_err-c.ensures.1 in
    rw (p.1, p.2) (Stops-read _ _ _ (text_at-spelled _ text rest spelled) (stopped (goal.at.returns-in_err-c-clause-only c).In_err-c))

pub loop-text-preserved : goal.loop-text-preserved
loop-text-preserved c =
    let further = text_at-further _ _ _ _ _ _ _ _ c.loop-text.invariant.0 c.plain_front.ensures.read c.in_default.ensures c.in_ok-c.ensures.read c.in_ok-push_str.ensures.ok in
    (rw c.in_ok-push.ensures.ok further, omega (arith, c.in_ok-c.ensures.shorter))
