use Rattle.std.proofs.Common.{◌≡◌, drop}
use Rattle.serializer.specs.Tokens.{filled}
use Rattle.serializer.proofs.tokens.fill.Given as goal

-- the values so far and the members that are left tell
abbrev pub invariant-loop-member : goal.invariant-loop-member
invariant-loop-member l = filled l.text l.fields (drop l.member-index l.members) ≡ filled l.text l.fn.fields l.members
