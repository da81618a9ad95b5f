use Rattle.std.proofs.Common.{Some, Ok, Err, sym, ◌∙◌}
use Rattle.std.specs.Option.{option_map}
use Rattle.rule_sets.specs.Rules.{rules_of, seen_rules}
use Rattle.model_store.specs.Contents.{rule_place_of, SaysRules}
use Rattle.model_store.specs.Due.{rules_name}
use Rattle.model_store.proofs.Saying.{at_fault, rule_fault_placed, gives, if_there, unopened, value_placed}
use Rattle.model_store.proofs.contents.rules_in.Goals as goal

pub returns-in-Err : goal.returns-in-Err
returns-in-Err c =
    if_there rules_name SaysRules (λ rules. option_map seen_rules rules) c.args.file c.in-Some.file (Err c.in-Err.refusal) c.in-Some.is
    (unopened rules_name SaysRules Some (λ rules. option_map seen_rules rules) c.in-Some.file c.in-Err.refusal c.in-Err.ensures)

pub returns-in-Ok-read : goal.returns-in-Ok-read
returns-in-Ok-read c =
    if_there rules_name SaysRules (λ rules. option_map seen_rules rules) c.args.file c.in-Some.file (Ok (Some c.in-Ok-read.rules)) c.in-Some.is
    (gives rules_name SaysRules Some c.in-Some.file c.in-Ok.doc (Ok (seen_rules c.in-Ok-read.rules)) c.in-Ok.ensures (value_placed rule_place_of (rules_of c.in-Ok.doc) (seen_rules c.in-Ok-read.rules) c.in-Ok-read.ensures))

pub returns : goal.returns
returns c =
    if_there rules_name SaysRules (λ rules. option_map seen_rules rules) c.args.file c.in-Some.file (Err c.bad_at.result) c.in-Some.is
    (at_fault rules_name SaysRules Some (λ rules. option_map seen_rules rules) c.in-Some.file c.in-Ok.doc c.rule_place_of.result c.bad_at.result c.in-Ok.ensures
    (λ at stands. rule_fault_placed (rules_of c.in-Ok.doc) c.in-Err-read.fault c.in-Err-read.ensures at (sym c.rule_place_of.ensures ∙ stands)) c.bad_at.ensures.fault c.bad_at.ensures.memory)
