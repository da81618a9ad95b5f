use Rattle.config_file.proofs.Signs.{before_sign, behind_sign}
use Rattle.config_file.proofs.line.key_at.Goals as goal

pub range-requires-clause-end_boundary : goal.range-requires-clause-end_boundary
range-requires-clause-end_boundary c = before_sign c.args.line.now c.args.at c.requires.within c.requires.sign

pub range_from-requires : goal.range_from-requires
range_from-requires c = λ positive. behind_sign c.args.line.now c.args.at c.utf8.line c.requires.within c.requires.sign
