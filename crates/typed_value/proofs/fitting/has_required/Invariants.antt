use Rattle.std.proofs.Common.{◌≡◌, true, take}
use Rattle.std.specs.List.{list_all}
use Rattle.typed_value.specs.Fits.{has_key}
use Rattle.typed_value.proofs.fitting.has_required.Given as goal

abbrev pub invariant-loop-name : goal.invariant-loop-name
invariant-loop-name l = list_all (has_key l.fields) (take l.name-index l.name-items) ≡ true
