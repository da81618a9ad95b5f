-- The courses of a command, put together from its parts.
use Rattle.std.proofs.Common.{◌≡◌, ℕ, List, Option, None, Some, Result, Ok, Err, refl, sym, ap, ◌∙◌, subst, ◌⊎◌, inl, inr, ⊎_elim}
use Rattle.std.specs.Prelude.{IfErr, IfSome}
use Rattle.aws_world.specs.declared.connection.Connection.{Connection}
use Rattle.aws_world.specs.Told.{Tells}
use Rattle.http_reply.specs.declared.outcome.Outcome.{Outcome}
use Rattle.http_reply.specs.declared.outcome.Outcome.TheVariants.{Whole, Lost, Cut, Malformed, TooLarge, OutOfMemory as outcome_no_memory}
use Rattle.http_exchange.specs.Exchange.{IsLost as is_lost_outcome}
use Rattle.aws_main.specs.declared.causes.Cause.{Cause}
use Rattle.aws_main.specs.declared.causes.Unanswered.{Unanswered}
use Rattle.aws_main.specs.declared.causes.Unanswered.TheVariants.{NotBuilt, Lost as link_lost, OutOfMemory as no_memory}
use Rattle.aws_main.specs.declared.causes.Unread.{Unread}
use Rattle.aws_main.specs.declared.causes.Unread.TheVariants.{NotBuilt as not_built_read, Usage, BadModel, NotAdmitted, FileFault, OutOfMemory as no_memory_read}
use Rattle.aws_main.specs.declared.plain_operations.PlainOperation.{PlainOperation}
use Rattle.aws_main.specs.declared.planning.Planned.{Planned}
use Rattle.aws_main.specs.Causes.{cause_of_unanswered, cause_of_unread, IsFileFault, IsLost, IsOutFault}
use Rattle.aws_main.specs.Course.{Course, Connects, EndsIn, HasText, IsAnswer, IsAnswered, IsCourse, IsDoneUnlessMemory, IsPlanned, IsRefusal, IsUnhindered}
use Rattle.aws_main.specs.Course.Course.{refused, answered}
use Rattle.model_store.specs.Folders.{Held}
use Rattle.aws_main.proofs.OneDue.{one_due}

-- an answer is Lost only where the outcome is
pub lost_answer : (operation : PlainOperation) (outcome : Outcome) (answer : Result (List ℕ) Unanswered) (P : Type 0) → IsAnswer operation outcome answer
    → (is_lost_outcome outcome → P) → IfErr answer (λ e. IsLost (cause_of_unanswered e) → P)
lost_answer operation outcome (Ok text) P is rose = tt
lost_answer operation outcome (Err NotBuilt) P is rose = λ lost. absurd lost
lost_answer operation outcome (Err no_memory) P is rose = λ lost. absurd lost
lost_answer operation (Whole reply) (Err (link_lost fault)) P is rose = absurd is
lost_answer operation (Lost kind) (Err (link_lost fault)) P is rose = λ lost. rose lost
lost_answer operation Cut (Err (link_lost fault)) P is rose = cc
lost_answer operation Malformed (Err (link_lost fault)) P is rose = cc
lost_answer operation TooLarge (Err (link_lost fault)) P is rose = cc
lost_answer operation outcome_no_memory (Err (link_lost fault)) P is rose = cc

-- no refusal is due where a request is
not_refused : (words : List (List ℕ)) (env files : Held) (planned : Planned) (refusal : Unread) → IsPlanned words env (Some files) planned → IsRefusal words env (Some files) refusal
    → (refusal ≡ no_memory_read) ⊎ IsFileFault (cause_of_unread refusal)
not_refused words env files planned (FileFault path) is denied = inr tt
not_refused words env files planned no_memory_read is denied = inl refl
not_refused words env files planned not_built_read is denied = let same : Ok planned ≡ Err not_built_read = one_due words env files (Ok planned) (Err not_built_read) is denied in cc
not_refused words env files planned (Usage fault) is denied = let same : Ok planned ≡ Err (Usage fault) = one_due words env files (Ok planned) (Err (Usage fault)) is denied in cc
not_refused words env files planned (BadModel file place) is denied = let same : Ok planned ≡ Err (BadModel file place) = one_due words env files (Ok planned) (Err (BadModel file place)) is denied in cc
not_refused words env files planned (NotAdmitted reason) is denied = let same : Ok planned ≡ Err (NotAdmitted reason) = one_due words env files (Ok planned) (Err (NotAdmitted reason)) is denied in cc

-- the answer of an outcome for which a text is due
text_answer : (operation : PlainOperation) (outcome : Outcome) (answer : Result (List ℕ) Unanswered) → HasText operation outcome → IsAnswer operation outcome answer
    → IfErr answer (λ e. e ≡ no_memory)
text_answer operation outcome (Ok text) has is = tt
text_answer operation outcome (Err no_memory) has is = refl
text_answer operation (Whole reply) (Err NotBuilt) has is = absurd (is has.0 has.1)
text_answer operation (Whole reply) (Err (link_lost fault)) has is = absurd is
text_answer operation (Lost kind) answer has is = absurd has
text_answer operation Cut answer has is = absurd has
text_answer operation Malformed answer has is = absurd has
text_answer operation TooLarge answer has is = absurd has
text_answer operation outcome_no_memory (Err NotBuilt) has is = cc
text_answer operation outcome_no_memory (Err (link_lost fault)) has is = cc

ends_done : (planned : Planned) (outcome : Outcome) (answer : Result (List ℕ) Unanswered) (cause : Cause) → IfErr answer (λ e. e ≡ no_memory) → EndsIn (answered planned outcome answer) cause
    → (IsOutFault cause → ⊥) → IsDoneUnlessMemory cause
ends_done planned outcome (Ok text) cause is (inl e) no_fault = inl e
ends_done planned outcome (Ok text) cause is (inr e) no_fault = absurd (no_fault (subst IsOutFault (sym e) tt))
ends_done planned outcome (Err e) cause is ends no_fault = inr (ends ∙ ap cause_of_unanswered is)

abbrev due_ok : Planned → Result Planned Unread
due_ok planned = Ok planned

ok_same : (a b : Planned) → due_ok a ≡ due_ok b → a ≡ b
ok_same a b e = cc

course_done : (words : List (List ℕ)) (env files : Held) (cause : Cause) (course : Course) (before after : List Connection) → IsCourse words env (Some files) course
    → EndsIn course cause → Connects course before after → IsUnhindered words env (Some files) before after → (IsFileFault cause → ⊥) → (IsOutFault cause → ⊥)
    → IsDoneUnlessMemory cause
course_done words env files cause (refused e) before after is ends connects free no_file no_out =
    ⊎_elim (λ (same : e ≡ no_memory_read). inr (ends ∙ ap cause_of_unread same))
    (λ (fault : IsFileFault (cause_of_unread e)). absurd (no_file (subst IsFileFault (sym ends) fault)))
    (not_refused words env files free.0 e free.1 is)
course_done words env files cause (answered planned outcome answer) before after is ends connects free no_file no_out =
    let same : free.0 ≡ planned = ok_same free.0 planned (one_due words env files (Ok free.0) (Ok planned) free.1 is.0) in
    let has : HasText planned.operation outcome = subst (λ p. IsAnswered p before after) same free.2 outcome connects in
    ends_done planned outcome answer cause (text_answer planned.operation outcome answer has is.1) ends no_out

-- a command that nothing kept from its end is done, or out of memory
pub completes : (words : List (List ℕ)) (env : Held) (held : Option Held) (cause : Cause) (first last : Option (List Connection))
    → ((course : Course) × IsCourse words env held course × EndsIn course cause × Tells first last (Connects course)) → (FileRose OutRose : Type 0)
    → (IsFileFault cause → FileRose) → (IsOutFault cause → OutRose)
    → IfSome held (λ files. IfSome first (λ before. IfSome last (λ after. IsUnhindered words env (Some files) before after → (FileRose → ⊥) → (OutRose → ⊥) → IsDoneUnlessMemory cause)))
completes words env None cause first last whole FileRose OutRose file out = tt
completes words env (Some files) cause None last whole FileRose OutRose file out = tt
completes words env (Some files) cause (Some before) None whole FileRose OutRose file out = tt
completes words env (Some files) cause (Some before) (Some after) whole FileRose OutRose file out =
    λ free no_file no_out. course_done words env files cause whole.0 before after whole.1 whole.2 whole.3 free (λ f. no_file (file f)) (λ o. no_out (out o))
