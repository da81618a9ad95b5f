use Rattle.std.proofs.Common.{Some, Ok, Err, sym, ◌∙◌}
use Rattle.model_files.specs.Waiters.{waiters_of}
use Rattle.model_store.specs.Contents.{place_of, SaysWaiters}
use Rattle.model_store.specs.Due.{waiters_name}
use Rattle.model_store.proofs.Saying.{at_fault, fault_placed, gives, if_there, unopened, value_placed}
use Rattle.model_store.proofs.contents.waiters_in.Goals as goal

pub returns-in-Err : goal.returns-in-Err
returns-in-Err c =
    if_there waiters_name SaysWaiters (λ rows. rows) c.args.file c.in-Some.file (Err c.in-Err.refusal) c.in-Some.is
    (unopened waiters_name SaysWaiters Some (λ rows. rows) c.in-Some.file c.in-Err.refusal c.in-Err.ensures)

pub returns-in-Ok-read : goal.returns-in-Ok-read
returns-in-Ok-read c =
    if_there waiters_name SaysWaiters (λ rows. rows) c.args.file c.in-Some.file (Ok (Some c.in-Ok-read.rows)) c.in-Some.is
    (gives waiters_name SaysWaiters Some c.in-Some.file c.in-Ok.doc (Ok c.in-Ok-read.rows) c.in-Ok.ensures (value_placed place_of (waiters_of c.in-Ok.doc) c.in-Ok-read.rows c.in-Ok-read.ensures))

pub returns : goal.returns
returns c =
    if_there waiters_name SaysWaiters (λ rows. rows) c.args.file c.in-Some.file (Err c.bad_at.result) c.in-Some.is
    (at_fault waiters_name SaysWaiters Some (λ rows. rows) c.in-Some.file c.in-Ok.doc c.place_of.result c.bad_at.result c.in-Ok.ensures
    (λ at stands. fault_placed (waiters_of c.in-Ok.doc) c.in-Err-read.fault c.in-Err-read.ensures at (sym c.place_of.ensures ∙ stands)) c.bad_at.ensures.fault c.bad_at.ensures.memory)
