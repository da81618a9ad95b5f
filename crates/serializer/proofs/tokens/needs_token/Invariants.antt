use Rattle.std.proofs.Common.{◌≡◌, false, take}
use Rattle.std.specs.List.{list_any}
use Rattle.serializer.specs.Tokens.{lacks_token}
use Rattle.serializer.proofs.tokens.needs_token.Given as goal

-- none of the members so far lacks an identifier
abbrev pub invariant-loop-member : goal.invariant-loop-member
invariant-loop-member l = list_any (lacks_token l.fields) (take l.member-index l.member-items) ≡ false
