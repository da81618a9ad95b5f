use Rattle.std.proofs.Common.{◌≡◌, ◌++◌, Ok, Err, refl, ◌∙◌, subst, inl, inr}
use Rattle.aws_world.specs.Told.{Tells}
use Rattle.aws_world.proofs.Told.{tells_none}
use Rattle.aws_main.specs.Causes.{GainsFront}
use Rattle.aws_main.specs.Course.Course.{refused, answered}
use Rattle.aws_main.proofs.running.work.Goals as goal

pub returns-in-Err-clause-course : goal.returns-in-Err-clause-course
returns-in-Err-clause-course g c = (
  refused c.in-Err.refusal,
  c.in-Err.ensures.refused,
  c.into_cause.ensures,
  tells_none (λ x z. z ≡ x) _ (λ x. refl),
  tells_none (λ x z. z ≡ x) _ (λ x. refl),
)

pub returns-in-Err-answer-clause-course : goal.returns-in-Err-answer-clause-course
returns-in-Err-answer-clause-course g c =
    let made = c.in-Err-answer.ensures.exchanged in (
      answered c.in-Ok.planned made.0 (Err c.in-Err-answer.end),
      (c.in-Ok.ensures.planned, made.1),
      c.into_cause-in-Err-answer.ensures,
      made.2,
      tells_none (λ x z. z ≡ x) _ (λ x. refl),
    )

pub returns-in-Ok-write_all-clause-course : goal.returns-in-Ok-write_all-clause-course
returns-in-Ok-write_all-clause-course g c =
    let made = c.in-Ok-answer.ensures.exchanged in (
      answered c.in-Ok.planned made.0 (Ok c.in-Ok-answer.text),
      (c.in-Ok.ensures.planned, made.1),
      inl refl,
      made.2,
      subst (λ bytes. Tells (g.O.Sink.told c.args.out.now) (g.O.Sink.told c.write_all.new.sink) (λ x z. z ≡ x ++ bytes)) (c.as_bytes.ensures.value ∙ c.as_str.ensures.bytes)
          c.in-Ok-write_all.ensures.ok,
    )

pub returns-clause-course : goal.returns-clause-course
returns-clause-course g c =
    let made = c.in-Ok-answer.ensures.exchanged in (
      answered c.in-Ok.planned made.0 (Ok c.in-Ok-answer.text),
      (c.in-Ok.ensures.planned, made.1),
      inr refl,
      made.2,
      subst (λ bytes. Tells (g.O.Sink.told c.args.out.now) (g.O.Sink.told c.write_all.new.sink) (GainsFront bytes)) (c.as_bytes.ensures.value ∙ c.as_str.ensures.bytes)
          c.in-Err-write_all.ensures.err,
    )
