use Rattle.std.proofs.Common.{sym, subst}
use Rattle.std.specs.Str.{IsCharBoundary}
use Rattle.config_file.proofs.Blanks.{front_boundary}
use Rattle.config_file.proofs.trimmed.front_trimmed.Goals as goal

pub range_from-requires : goal.range_from-requires
range_from-requires c = λ positive.
    subst (λ k. IsCharBoundary c.args.text.now k) (sym c.blanks_before.ensures) (front_boundary c.args.text.now c.utf8.text)
