use Rattle.std.proofs.lemmas.Int.{to_z-of_z}
use mir.Syntax.{w64}
use Rattle.value_texts.proofs.scalars.push_moment.Goals as goal

pub returns-in-Iso8601 : goal.returns-in-Iso8601
returns-in-Iso8601 c = rw c.in-Iso8601.is (rw (to_z-of_z w64 c.args.moment c.ranges.moment) at c.push_iso8601.ensures)
