use Rattle.std.proofs.Common.{◌-◌, length, sym, subst}
use Rattle.std.specs.Str.{IsCharBoundary}
use Rattle.config_file.proofs.Blanks.{end_boundary}
use Rattle.config_file.proofs.trimmed.end_trimmed.Goals as goal

pub range-requires-clause-end_boundary : goal.range-requires-clause-end_boundary
range-requires-clause-end_boundary c =
    subst (λ k. IsCharBoundary c.args.text.now (length c.args.text.now - k)) (sym c.blanks_behind.ensures) (end_boundary c.args.text.now)
