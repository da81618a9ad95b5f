use Rattle.endpoint_rules.proofs.Substrings.{not_ascii, too_short, part_from_start, part_from_end}
use Rattle.endpoint_rules.proofs.library.part_between.Goals as goal

pub returns-then-not-is_ascii : goal.returns-then-not-is_ascii
returns-then-not-is_ascii c =
    not_ascii c.args.text.now c.args.start c.args.end c.args.reverse c.utf8.text c.if-not-is_ascii.ensures.cases

pub returns-then-end-text : goal.returns-then-end-text
returns-then-end-text c =
    too_short c.args.text.now c.args.start c.args.end c.args.reverse c.if-not-is_ascii.ensures.cases c.if-start-end.false c.if-end-text.true

pub returns-then-reverse : goal.returns-then-reverse
returns-then-reverse c =
    rw c.if-reverse.true
    (part_from_end c.args.text.now c.range.result.now c.args.start c.args.end c.if-not-is_ascii.ensures.cases
    c.if-start-end.false c.if-end-text.false c.range.ensures.value)

pub returns-else-reverse : goal.returns-else-reverse
returns-else-reverse c =
    rw c.if-reverse.false
    (part_from_start c.args.text.now c.range-else-reverse.result.now c.args.start c.args.end c.if-not-is_ascii.ensures.cases
    c.if-start-end.false c.if-end-text.false c.range-else-reverse.ensures.value)
