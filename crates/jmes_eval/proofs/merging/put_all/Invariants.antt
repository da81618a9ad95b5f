use Rattle.std.proofs.Common.{◌≡◌, drop}
use Rattle.json_doc.specs.Gathered.{pairs_of}
use Rattle.json_doc.specs.Grammar.{put_all}
use Rattle.jmes_eval.proofs.merging.put_all.Given as goal

abbrev pub invariant-loop-field : goal.invariant-loop-field
invariant-loop-field l = put_all (pairs_of l.made.entries) (drop l.field-index l.fields) ≡ put_all (pairs_of l.fn.made.entries) l.fn.fields
