use Rattle.std.proofs.Common.{◌+◌, append_assoc}
use Rattle.std.proofs.lemmas.List.{take_rest}
use Rattle.jmes_eval.proofs.Settings.{distinct-front, new-between, put-distinct}
use Rattle.jmes_eval.proofs.setting.with_pair.Goals as goal

pub push_copies-requires : goal.push_copies-requires
push_copies-requires c =
    let distinct = put-distinct c.args.fields.now _ c.args.name.now c.args.value (c.place_of-at.ensures.replaced c.args.value) c.requires in
    rw c.new-made.ensures (distinct-front _ _ distinct)

pub push_new-requires : goal.push_new-requires
push_new-requires c =
    let distinct = put-distinct c.args.fields.now _ c.args.name.now c.args.value (c.place_of-at.ensures.replaced c.args.value) c.requires in
    rw (c.in_ok-copy.ensures, c.in_ok-push_copies.ensures, c.new-made.ensures) (new-between _ _ _ distinct)

pub push_copies-requires-then-at-fields : goal.push_copies-requires-then-at-fields
push_copies-requires-then-at-fields c =
    let distinct = put-distinct c.args.fields.now _ c.args.name.now c.args.value (c.place_of-at.ensures.replaced c.args.value) c.requires in
    rw (c.in_ok-push_new.ensures.ok, c.in_ok-copy.ensures, c.in_ok-push_copies.ensures, c.new-made.ensures, take_rest c.args.fields.now (c.place_of-at.result + 1), append_assoc) distinct
