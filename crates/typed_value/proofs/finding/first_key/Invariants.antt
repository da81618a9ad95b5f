use Rattle.std.proofs.Common.{◌≡◌, false, take}
use Rattle.typed_value.specs.Fits.{has_key}
use Rattle.typed_value.proofs.finding.first_key.Given as goal

-- none of the entries so far has the key
abbrev pub invariant-loop-at : goal.invariant-loop-at
invariant-loop-at l = has_key (take l.at l.fields) l.key ≡ false
