use Rattle.std.proofs.Common.{◌≡◌, drop}
use Rattle.arg_table.specs.Given.{given_in}
use Rattle.arg_table.proofs.Gifts.{put_before}
use Rattle.arg_table.proofs.given.given_in.Given as goal

abbrev pub invariant-loop-group : goal.invariant-loop-group
invariant-loop-group l = given_in l.table l.waits l.groups ≡ put_before l.made.items (given_in l.table l.waits (drop l.group-index l.groups))
