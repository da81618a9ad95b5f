-- The table is compared with the definition at each byte, by computing.
use Rattle.std.proofs.Common.{◌==◌, get_or, refl, arith}
use Rattle.std.proofs.lemmas.Bool.{agree_below_at}
use Rattle.json_doc.specs.declared.text_token.TheConstants.{RUN_ENDS}
use Rattle.json_doc.specs.TextToken.{ends_run}
use Rattle.json_doc.proofs.text_token.ends_run.Goals as goal

pub returns : goal.returns
returns c = agree_below_at (λ b. get_or RUN_ENDS b 0 == 35) ends_run 256 c.args.b refl (omega arith)
