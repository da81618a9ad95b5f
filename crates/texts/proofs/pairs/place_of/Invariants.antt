use Rattle.std.proofs.Common.{◌≡◌, ◌++◌, take, drop}
use Rattle.texts.specs.Keys.{put}
use Rattle.texts.proofs.pairs.place_of.Given as goal

-- none of the pairs so far has the key
abbrev pub invariant-loop-at : goal.invariant-loop-at
invariant-loop-at g l =
    (v : g.row.T.Denot) → put l.pairs l.key v ≡ take l.at l.pairs ++ put (drop l.at l.pairs) l.key v
