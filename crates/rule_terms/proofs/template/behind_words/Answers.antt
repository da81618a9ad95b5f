use Rattle.rule_terms.proofs.Pieces.{left_goes, named_goes, more_goes, some_words}
use Rattle.rule_terms.proofs.template.behind_words.Goals as goal

pub returns-then-c-eq123 : goal.returns-then-c-eq123
returns-then-c-eq123 c =
    left_goes c.args.pieces.now c.push_open.new.pieces c.args.words c.new.result c.args.c c.requires
    (some_words c.is_empty.result c.args.words c.is_empty.ensures c.if-is_empty.false) c.if-c-eq123.true c.in_ok-push_open.ensures c.new.ensures

pub returns-then-c-eq125 : goal.returns-then-c-eq125
returns-then-c-eq125 c =
    named_goes c.args.pieces.now c.push.new.self c.args.words c.args.c c.requires
    (some_words c.is_empty.result c.args.words c.is_empty.ensures c.if-is_empty.false) c.if-c-eq125.true c.in_ok-push.ensures.ok

pub returns : goal.returns
returns c =
    more_goes c.args.pieces.now c.args.words c.push-2.new.self c.args.c c.requires c.if-c-eq123.false c.if-c-eq125.false c.in_ok-push-2.ensures.ok
