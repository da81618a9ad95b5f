use Rattle.std.proofs.Common.{◌≡◌, ◌++◌, subst}
use Rattle.aws_world.specs.Told.{Tells}
use Rattle.aws_main.specs.Causes.{GainsFront}
use Rattle.aws_main.proofs.Fronts.{front_of_first, front_of_rest, on_err, always_on_err}
use Rattle.aws_main.proofs.messages.write_around.Goals as goal

pub returns-in_err-write_all-clause-err : goal.returns-in_err-write_all-clause-err
returns-in_err-write_all-clause-err g c =
    always_on_err _ c.from_residual.result (front_of_first c.args.before.now (c.args.text.now ++ c.args.after.now) _ _ c.in_err-write_all.ensures.err)

pub returns-in_err-write_all-2-clause-err : goal.returns-in_err-write_all-2-clause-err
returns-in_err-write_all-2-clause-err g c =
    always_on_err _ c.from_residual-in_err-write_all-2.result
    (front_of_rest c.args.before.now (c.args.text.now ++ c.args.after.now) _ _ _ c.in_ok-write_all.ensures.ok
    (front_of_first c.args.text.now c.args.after.now _ _
    (subst (λ bytes. Tells (g.E.Sink.told c.write_all.new.sink) (g.E.Sink.told c.write_all-2.new.sink) (GainsFront bytes)) c.as_bytes.ensures.value c.in_err-write_all-2.ensures.err)))

pub returns-clause-err : goal.returns-clause-err
returns-clause-err g c =
    on_err _ _ c.write_all-3.result c.write_all-3.ensures.err
    (λ front. front_of_rest c.args.before.now (c.args.text.now ++ c.args.after.now) _ _ _ c.in_ok-write_all.ensures.ok
    (front_of_rest c.args.text.now c.args.after.now _ _ _
    (subst (λ bytes. Tells (g.E.Sink.told c.write_all.new.sink) (g.E.Sink.told c.write_all-2.new.sink) (λ x z. z ≡ x ++ bytes)) c.as_bytes.ensures.value c.in_ok-write_all-2.ensures.ok) front))
