use Rattle.std.proofs.Common.{◌≡◌, false, take}
use Rattle.std.specs.Str.{chars}
use Rattle.serializer.specs.HeaderNames.{is_among}
use Rattle.serializer.proofs.header_names.is_among.Given as goal

-- none of the headers so far has the name
abbrev pub invariant-loop-header : goal.invariant-loop-header
invariant-loop-header l = is_among (take l.header-index l.headers) (chars l.name) ≡ false
