use Rattle.std.proofs.Common.{◌≡◌, ◌-◌, ◌++◌, inr, arith, ◌∙◌, subst, Some}
use Rattle.std.proofs.lemmas.List.{take_all}
use Rattle.http_reply.specs.Waiting.{WaitsAfter, WaitsOrAnswers}
use Rattle.http_reply.proofs.ReadLemmas.{outcome_of_all, past_all}
use Rattle.http_reply.proofs.reader.ReplyReader.read.Goals as goal

pub returns-in-Ok-Some-clause-gives : goal.returns-in-Ok-Some-clause-gives
returns-in-Ok-Some-clause-gives c = λ head_only received waits.
    let gives : WaitsOrAnswers head_only (received ++ c.split_at.result.0.now) c.read_within.new.self (Some c.in-Ok-Some.outcome) =
    subst (WaitsOrAnswers head_only (received ++ c.split_at.result.0.now) c.read_within.new.self) c.in-Ok-Some.field-0-is (c.in-Ok-Some.ensures.gives head_only received waits) in
    outcome_of_all head_only received c.args.piece.now c.split_at.result.0.now c.min.result c.in-Ok-Some.outcome c.split_at.ensures.front gives

pub returns-in-Ok-None-clause-gives : goal.returns-in-Ok-None-clause-gives
returns-in-Ok-None-clause-gives c = λ head_only received waits.
    let gives : WaitsAfter head_only (received ++ c.split_at.result.0.now) c.read_within.new.self =
    subst (WaitsOrAnswers head_only (received ++ c.split_at.result.0.now) c.read_within.new.self) c.in-Ok-None.field-0-is (c.in-Ok-None.ensures.gives head_only received waits) in
    let counted = waits.counted in
    let few = waits.waiting.1 in
    let cut : c.min.result ≡ 268435456 - c.args.self.now.count = c.min.ensures ∙ (omega arith) in
    inr (past_all head_only received c.args.piece.now c.split_at.result.0.now c.min.result _ _ c.split_at.ensures.front (omega arith) (omega arith) gives.waiting)

pub returns-in-Ok-None-2-clause-gives : goal.returns-in-Ok-None-2-clause-gives
returns-in-Ok-None-2-clause-gives c = λ head_only received waits.
    let gives : WaitsAfter head_only (received ++ c.split_at.result.0.now) c.read_within.new.self =
    subst (WaitsOrAnswers head_only (received ++ c.split_at.result.0.now) c.read_within.new.self) c.in-Ok-None.field-0-is (c.in-Ok-None.ensures.gives head_only received waits) in
    let whole = c.split_at.ensures.front ∙ take_all c.min.result c.args.piece.now (omega arith) in
    subst (λ b. WaitsAfter head_only (received ++ b) c.read_within.new.self) whole gives

pub returns-in-Ok-None-2-clause-reads : goal.returns-in-Ok-None-2-clause-reads
returns-in-Ok-None-2-clause-reads c =
    (c.requires.0, c.requires.1 ++ c.args.piece.now, returns-in-Ok-None-2-clause-gives c c.requires.0 c.requires.1 c.requires.2)
