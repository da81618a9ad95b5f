use Rattle.std.proofs.Common.{sym, ap, ◌∙◌, nat_eq, Some}
use Rattle.std.specs.Str.{chars}
use Rattle.rule_terms.specs.Attributes.{along, step_of, attribute_of}
use Rattle.texts.specs.Cut.{cut, is_among}
use Rattle.rule_terms.proofs.Paths.{found_none, found_some, found_all}
use Rattle.rule_terms.proofs.attributes.attribute.Goals as goal

pub returns-in-None : goal.returns-in-None
returns-in-None c =
    found_none c.as_slice-part-items.result.now c.loop-at.at c.part-item.result c.loop-at.found.now (attribute_of (chars c.args.path.now) c.args.value.now) c.loop-at-test.true c.part-item.is
    (ap (λ part. step_of (nat_eq c.loop-at.at 0) part c.loop-at.found.now) (sym c.as_str.ensures.value) ∙ sym c.in-None.ensures) c.loop-at.invariant

pub loop-at-init : goal.loop-at-init
loop-at-init c =
    ap (λ parts. along (nat_eq 0 0) parts (Some c.args.value.now)) (c.as_slice-part-items.ensures ∙ c.in_ok-parts.ensures ∙ ap (λ marks. cut (is_among marks) (chars c.args.path.now)) c.as_slice.ensures)

pub loop-at-preserved : goal.loop-at-preserved
loop-at-preserved c =
    found_some c.as_slice-part-items.result.now c.loop-at.at c.part-item.result c.loop-at.found.now c.in-Some.value.now (attribute_of (chars c.args.path.now) c.args.value.now) c.loop-at-test.true c.part-item.is
    (ap (λ part. step_of (nat_eq c.loop-at.at 0) part c.loop-at.found.now) (sym c.as_str.ensures.value) ∙ sym c.in-Some.ensures) c.loop-at.invariant

pub returns : goal.returns
returns c = found_all c.as_slice-part-items.result.now c.loop-at.at c.loop-at.found.now (attribute_of (chars c.args.path.now) c.args.value.now) c.loop-at-test.false c.loop-at.invariant
