use Rattle.std.proofs.Common.{subst}
use Rattle.aws_main.specs.Course.{IsCourse}
use Rattle.aws_main.proofs.Courses.{completes}
use Rattle.aws_main.proofs.running.run.Goals as goal

pub returns-clause-complete : goal.returns-clause-complete
returns-clause-complete g c =
    let whole = c.work-cause.ensures.course in
    completes c.args.words.now c.args.env.now.pairs (g.F.Files.told c.args.files.now) c.work-cause.result _ _
    (whole.0, subst (λ words. IsCourse words c.args.env.now.pairs (g.F.Files.told c.args.files.now) whole.0) c.as_slice.ensures whole.1, whole.2, whole.3)
    _ _ c.work-cause.ensures.file_fault c.work-cause.ensures.out_fault
