use Rattle.std.proofs.Common.{ap, ◌∙◌}
use Rattle.json_doc.specs.Gathered.{pairs_of}
use Rattle.json_doc.proofs.Gathering.{pairs_of-insert_entry}
use Rattle.jmes_eval.proofs.merging.put_entry.Goals as goal

pub returns : goal.returns
returns c = ap pairs_of c.in_ok-insert.ensures.entries ∙ pairs_of-insert_entry c.args.made.now.entries c.args.key c.args.value
