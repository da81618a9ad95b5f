use Rattle.std.proofs.Common.{◌≡◌, ◌++◌, drop}
use Rattle.std.specs.Prelude.{flat_map}
use Rattle.uri_texts.specs.Templates.{pieces, pieces_behind}
use Rattle.uri_texts.proofs.templates.pieces.Given as goal

-- the pieces so far and those of the parts that are due are all of them
abbrev pub invariant-loop-part : goal.invariant-loop-part
invariant-loop-part l = l.made ++ flat_map pieces_behind (drop l.part-index l.others) ≡ pieces l.template
