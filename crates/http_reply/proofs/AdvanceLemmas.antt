-- A move of the code is a move of the machine.
use Rattle.std.proofs.Common.{◌≡◌, ℕ, ◌+◌, ◌<◌, ◌≤◌, Bool, List, length, drop, subst, arith, length-drop}
use Rattle.std.proofs.lemmas.List.{drop-drop}
use Rattle.aws_world.specs.declared.message.Reply.{Reply}
use Rattle.http_reply.specs.declared.steps.Due.{Due}
use Rattle.http_reply.specs.declared.steps.Stepped.{Stepped}
use Rattle.http_reply.specs.declared.steps.Stepped.TheVariants.{Moves}
use Rattle.http_reply.specs.Machine.{Phase, move, Does, Leads}
use Rattle.http_reply.specs.Reading.{phase_of, Fits, step_of, StepFits}
use Rattle.http_reply.proofs.StepLemmas.{takes_within}
use Rattle.http_reply.proofs.MoveLemmas.{leads_join, leads_one}

pub record IsMoved (head_only : Bool) (p : Phase) (bytes : List ℕ) (at taken : ℕ) (next : Due) (after : Reply) : Type 0 where
  pub some : 0 < taken
  pub within : at + taken ≤ length bytes
  pub fits : Fits next after
  pub leads : Leads head_only p bytes (phase_of next after) (drop (at + taken) bytes)

pub moved : (head_only : Bool) (p : Phase) (bytes : List ℕ) (d : Due) (before after : Reply) (rest : List ℕ) (at : ℕ) (s : Stepped) (next : Due) (taken : ℕ)
    → Leads head_only p bytes (phase_of d before) (drop at bytes) → rest ≡ drop at bytes → at ≤ length bytes
    → Does head_only (phase_of d before) rest (step_of after rest s) → StepFits before after rest s → s ≡ Moves next taken
    → IsMoved head_only p bytes at taken next after
moved head_only p bytes d before after rest at s next taken leads rest_is within does fits s_is =
    let step : Does head_only (phase_of d before) (drop at bytes) (move (phase_of next after) taken) =
    subst (λ r. Does head_only (phase_of d before) r (move (phase_of next after) taken)) rest_is
    (subst (λ t. Does head_only (phase_of d before) rest (step_of after rest t)) s_is does) in
    let takes = takes_within head_only (phase_of d before) (drop at bytes) (phase_of next after) taken step in
    let left = length-drop at bytes in
    record {
      some = takes.0;
      within = omega arith;
      fits = subst (λ t. StepFits before after rest t) s_is fits;
      leads = subst (λ r. Leads head_only p bytes (phase_of next after) r) (drop-drop taken at bytes)
          (leads_join head_only p bytes (phase_of d before) (drop at bytes) (phase_of next after) (drop taken (drop at bytes)) leads
          (leads_one head_only (phase_of d before) (drop at bytes) (phase_of next after) taken step));
    }
