use Rattle.out_format.proofs.Literals.{chars-True, chars-False}
use Rattle.out_format.proofs.layers.flag_text.Goals as goal

pub returns-then-flag : goal.returns-then-flag
returns-then-flag c = rw (c.if-flag.true, ← chars-True) c.from_str.ensures

pub returns-else-flag : goal.returns-else-flag
returns-else-flag c = rw (c.if-flag.false, ← chars-False) c.from_str-else-flag.ensures
