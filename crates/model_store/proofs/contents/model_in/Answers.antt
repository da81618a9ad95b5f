use Rattle.std.proofs.Common.{Ok, Err, refl, sym, ◌∙◌}
use Rattle.model_store.specs.Contents.{SaysModel}
use Rattle.model_store.specs.Due.{found_at}
use Rattle.model_store.specs.Versions.{model_name}
use Rattle.model_store.proofs.Saying.{at_fault, gives, unopened}
use Rattle.model_store.proofs.contents.model_in.Goals as goal

pub returns-in-Err : goal.returns-in-Err
returns-in-Err c = unopened model_name SaysModel (found_at c.args.version) (λ found. found) c.args.file c.in-Err.refusal c.in-Err.ensures

pub returns-in-Ok-read : goal.returns-in-Ok-read
returns-in-Ok-read c = gives model_name SaysModel (found_at c.args.version) c.args.file c.in-Ok.doc (Ok c.in-Ok-read.model) c.in-Ok.ensures (Ok c.in-Ok-read.model, c.in-Ok-read.ensures, refl)

pub returns-in-Err-read : goal.returns-in-Err-read
returns-in-Err-read c =
    at_fault model_name SaysModel (found_at c.args.version) (λ found. found) c.args.file c.in-Ok.doc c.place_of.result c.bad_at.result c.in-Ok.ensures
    (λ at stands. (Err c.in-Err-read.fault, c.in-Err-read.ensures, sym c.place_of.ensures ∙ stands)) c.bad_at.ensures.fault c.bad_at.ensures.memory
