use Rattle.std.proofs.Common.{◌≡◌}
use Rattle.std.specs.Vec.Iter.{into_iter_items}
use Rattle.std.specs.Str.{chars}
use Rattle.sigv4.specs.Path.{with_segments, segments_of}
use Rattle.sigv4.proofs.paths.segments_of.Given as goal

-- the segments so far with the parts that are due give those of the path
abbrev pub invariant-loop-part : goal.invariant-loop-part
invariant-loop-part l = with_segments l.segments.items (into_iter_items l.part-iterator) ≡ segments_of (chars l.fn.path)
