use Rattle.std.proofs.Common.{Ok, Err, sym, ◌∙◌}
use Rattle.rule_sets.specs.Partitions.{partitions_of}
use Rattle.model_store.specs.Contents.{rule_place_of, SaysPartitions}
use Rattle.model_store.specs.Due.{partitions_name}
use Rattle.model_store.proofs.Saying.{at_fault, rule_fault_placed, gives, must_be_there, unopened, value_placed}
use Rattle.model_store.proofs.contents.partitions_in.Goals as goal

pub returns-in-Err : goal.returns-in-Err
returns-in-Err c =
    must_be_there partitions_name SaysPartitions (λ partitions. partitions) c.args.file c.in-Some.file (Err c.in-Err.refusal) c.in-Some.is
    (unopened partitions_name SaysPartitions (λ x. x) (λ partitions. partitions) c.in-Some.file c.in-Err.refusal c.in-Err.ensures)

pub returns-in-Ok-read : goal.returns-in-Ok-read
returns-in-Ok-read c =
    must_be_there partitions_name SaysPartitions (λ partitions. partitions) c.args.file c.in-Some.file (Ok c.in-Ok-read.partitions) c.in-Some.is
    (gives partitions_name SaysPartitions (λ x. x) c.in-Some.file c.in-Ok.doc (Ok c.in-Ok-read.partitions) c.in-Ok.ensures (value_placed rule_place_of (partitions_of c.in-Ok.doc) c.in-Ok-read.partitions c.in-Ok-read.ensures))

pub returns : goal.returns
returns c =
    must_be_there partitions_name SaysPartitions (λ partitions. partitions) c.args.file c.in-Some.file (Err c.bad_at.result) c.in-Some.is
    (at_fault partitions_name SaysPartitions (λ x. x) (λ partitions. partitions) c.in-Some.file c.in-Ok.doc c.rule_place_of.result c.bad_at.result c.in-Ok.ensures
    (λ at stands. rule_fault_placed (partitions_of c.in-Ok.doc) c.in-Err-read.fault c.in-Err-read.ensures at (sym c.rule_place_of.ensures ∙ stands)) c.bad_at.ensures.fault c.bad_at.ensures.memory)
