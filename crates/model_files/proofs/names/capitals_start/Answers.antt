use Rattle.std.proofs.Common.{◌∙◌, true, false, sym, arith}
use Rattle.model_files.proofs.Plurals.{start_at}
use Rattle.model_files.proofs.names.capitals_start.Goals as goal
use Rattle.model_files.proofs.names.capitals_start.Goals.{then-not-is_ascii_uppercase, else-not-is_ascii_uppercase}

pub loop-at-preserved : goal.loop-at-preserved
loop-at-preserved c =
    elim c.if-not-is_ascii_uppercase.branch [
      | then-not-is_ascii_uppercase w ↦ (
        w.start-is ∙ start_at c.args.chars.now c.loop-at.at c.index-chars-at.result c.loop-at.start false c.loop-at-test.true c.index-chars-at.is
            (sym c.is_ascii_uppercase.ensures.value ∙ w.if-not-is_ascii_uppercase.true) c.loop-at.invariant.0,
        omega (arith, w.start-is),
      )
      | else-not-is_ascii_uppercase w ↦ (
        w.start-is ∙ start_at c.args.chars.now c.loop-at.at c.index-chars-at.result c.loop-at.start true c.loop-at-test.true c.index-chars-at.is
            (sym c.is_ascii_uppercase.ensures.value ∙ w.if-not-is_ascii_uppercase.false) c.loop-at.invariant.0,
        omega (arith, w.start-is, c.loop-at.invariant.1),
      )
    ]
