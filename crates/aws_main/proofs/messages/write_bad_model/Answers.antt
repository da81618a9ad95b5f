use Rattle.std.proofs.Common.{◌≡◌, [], ◌∷◌, ◌++◌, subst}
use Rattle.std.specs.Prelude.{codes}
use Rattle.aws_world.specs.Told.{Tells}
use Rattle.aws_main.specs.Causes.{GainsFront}
use Rattle.aws_main.proofs.Fronts.{front_of_first, front_of_rest, put_then, on_ok, on_err, always_on_err}
use Rattle.aws_main.proofs.messages.write_bad_model.Goals as goal

pub returns-in_err-write_all-clause-err : goal.returns-in_err-write_all-clause-err
returns-in_err-write_all-clause-err g c =
    always_on_err _ c.from_residual.result
    (front_of_first (10 ∷ codes "Invalid model ") (c.args.file.now ++ (codes ": " ++ (c.args.place.now ++ 10 ∷ []))) _ _ c.in_err-write_all.ensures.err)

pub returns-in_err-write_all-2-clause-err : goal.returns-in_err-write_all-2-clause-err
returns-in_err-write_all-2-clause-err g c =
    always_on_err _ c.from_residual-in_err-write_all-2.result
    (front_of_rest (10 ∷ codes "Invalid model ") (c.args.file.now ++ (codes ": " ++ (c.args.place.now ++ 10 ∷ []))) _ _ _ c.in_ok-write_all.ensures.ok
    (front_of_first c.args.file.now (codes ": " ++ (c.args.place.now ++ 10 ∷ [])) _ _
    (subst (λ bytes. Tells (g.E.Sink.told c.write_all.new.sink) (g.E.Sink.told c.write_all-2.new.sink) (GainsFront bytes)) c.as_bytes.ensures.value c.in_err-write_all-2.ensures.err)))

pub returns-clause-ok : goal.returns-clause-ok
returns-clause-ok g c =
    on_ok _ _ c.write_around.result c.write_around.ensures.ok
    (λ wrote. put_then (10 ∷ codes "Invalid model ") (c.args.file.now ++ (codes ": " ++ (c.args.place.now ++ 10 ∷ []))) _ _ _ c.in_ok-write_all.ensures.ok
    (put_then c.args.file.now (codes ": " ++ (c.args.place.now ++ 10 ∷ [])) _ _ _
    (subst (λ bytes. Tells (g.E.Sink.told c.write_all.new.sink) (g.E.Sink.told c.write_all-2.new.sink) (λ x z. z ≡ x ++ bytes)) c.as_bytes.ensures.value c.in_ok-write_all-2.ensures.ok) wrote))

pub returns-clause-err : goal.returns-clause-err
returns-clause-err g c =
    on_err _ _ c.write_around.result c.write_around.ensures.err
    (λ front. front_of_rest (10 ∷ codes "Invalid model ") (c.args.file.now ++ (codes ": " ++ (c.args.place.now ++ 10 ∷ []))) _ _ _ c.in_ok-write_all.ensures.ok
    (front_of_rest c.args.file.now (codes ": " ++ (c.args.place.now ++ 10 ∷ [])) _ _ _
    (subst (λ bytes. Tells (g.E.Sink.told c.write_all.new.sink) (g.E.Sink.told c.write_all-2.new.sink) (λ x z. z ≡ x ++ bytes)) c.as_bytes.ensures.value c.in_ok-write_all-2.ensures.ok) front))
