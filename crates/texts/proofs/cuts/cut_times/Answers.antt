use Rattle.std.proofs.Common.{rules, ◌++◌, ◌∷◌, [], ◌-◌, ap, ◌∙◌}
use Rattle.std.specs.Str.{chars}
use Rattle.texts.specs.Cut.{cut_times}
use Rattle.texts.proofs.CutTexts.{one_cut}
use Rattle.texts.proofs.cuts.cut_times.Goals as goal

pub loop-left-preserved : goal.loop-left-preserved
loop-left-preserved c = (
  search rules,
  ap (λ ps. ps ++ cut_times c.args.mark (c.loop-left.left - 1) (chars c.in-Some.behind.now))
      (c.in_ok-push.ensures.ok ∙ ap (λ part. c.loop-left.parts ++ part ∷ []) c.in_ok-from_str.ensures)
      ∙ one_cut c.args.mark c.loop-left.left c.loop-left.parts (chars c.in-Some.part.now) (chars c.in-Some.behind.now) (chars c.loop-left.rest.now) (cut_times c.args.mark c.args.times (chars c.args.text.now))
      c.loop-left-test.true c.in-Some.ensures c.loop-left.invariant.1,
)
