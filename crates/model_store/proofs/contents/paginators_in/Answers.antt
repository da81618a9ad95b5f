use Rattle.std.proofs.Common.{Some, Ok, Err, sym, ◌∙◌}
use Rattle.model_files.specs.Paginators.{paginators_of}
use Rattle.model_store.specs.Contents.{place_of, SaysPaginators}
use Rattle.model_store.specs.Due.{paginators_name}
use Rattle.model_store.proofs.Saying.{at_fault, fault_placed, gives, if_there, unopened, value_placed}
use Rattle.model_store.proofs.contents.paginators_in.Goals as goal

pub returns-in-Err : goal.returns-in-Err
returns-in-Err c =
    if_there paginators_name SaysPaginators (λ rows. rows) c.args.file c.in-Some.file (Err c.in-Err.refusal) c.in-Some.is
    (unopened paginators_name SaysPaginators Some (λ rows. rows) c.in-Some.file c.in-Err.refusal c.in-Err.ensures)

pub returns-in-Ok-read : goal.returns-in-Ok-read
returns-in-Ok-read c =
    if_there paginators_name SaysPaginators (λ rows. rows) c.args.file c.in-Some.file (Ok (Some c.in-Ok-read.rows)) c.in-Some.is
    (gives paginators_name SaysPaginators Some c.in-Some.file c.in-Ok.doc (Ok c.in-Ok-read.rows) c.in-Ok.ensures (value_placed place_of (paginators_of c.in-Ok.doc) c.in-Ok-read.rows c.in-Ok-read.ensures))

pub returns : goal.returns
returns c =
    if_there paginators_name SaysPaginators (λ rows. rows) c.args.file c.in-Some.file (Err c.bad_at.result) c.in-Some.is
    (at_fault paginators_name SaysPaginators Some (λ rows. rows) c.in-Some.file c.in-Ok.doc c.place_of.result c.bad_at.result c.in-Ok.ensures
    (λ at stands. fault_placed (paginators_of c.in-Ok.doc) c.in-Err-read.fault c.in-Err-read.ensures at (sym c.place_of.ensures ∙ stands)) c.bad_at.ensures.fault c.bad_at.ensures.memory)
