use Rattle.std.proofs.Common.{◌≡◌, ◌++◌, drop, map}
use Rattle.std.specs.Prelude.{filter}
use Rattle.uri_texts.specs.Constants.{constant, constants, is_there}
use Rattle.uri_texts.proofs.query.constants.Given as goal

-- the constants so far and those of the parts that are due are all of them
abbrev pub invariant-loop-part : goal.invariant-loop-part
invariant-loop-part l = l.made ++ map constant (filter is_there (drop l.part-index l.part-items)) ≡ constants l.fn.uri
