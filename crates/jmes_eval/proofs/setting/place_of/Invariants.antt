use Rattle.std.proofs.Common.{◌≡◌, ◌++◌, take, drop}
use Rattle.json_doc.specs.declared.doc.Doc.{Doc}
use Rattle.texts.specs.Keys.{put}
use Rattle.jmes_eval.proofs.setting.place_of.Given as goal

-- none of the pairs so far has the key
abbrev pub invariant-loop-at : goal.invariant-loop-at
invariant-loop-at l = (v : Doc) → put l.fields l.name v ≡ take l.at l.fields ++ put (drop l.at l.fields) l.name v
