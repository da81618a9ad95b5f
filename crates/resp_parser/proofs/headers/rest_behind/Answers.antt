use Rattle.std.proofs.Common.{sym, ap, ◌∙◌, Some}
use Rattle.std.specs.Str.{chars}
use Rattle.std.specs.Str.Iter.{chars_rest}
use Rattle.std.proofs.lemmas.List.{nil_from_length}
use Rattle.std.proofs.lemmas.Str.{IsUtf8-past_char}
use Rattle.resp_parser.proofs.Prefixes.{behind-ended, behind-heads, behind-longer, chosen, refused}
use Rattle.resp_parser.proofs.headers.rest_behind.Goals as goal

pub returns-in_default : goal.returns-in_default
returns-in_default c = sym (behind-longer (chars_rest c.loop-expected.expected-iterator) (chars_rest c.loop-expected.rest) (chars_rest c.next.new.self) c.in-Some.expected c.loop-expected.invariant.0 c.in-Some.ensures.steps.0 (nil_from_length (chars_rest c.loop-expected.rest) c.in_default.ensures.steps.0.0)) ∙ c.loop-expected.invariant.2

pub returns-then-not-eq_ignore_ascii_case : goal.returns-then-not-eq_ignore_ascii_case
returns-then-not-eq_ignore_ascii_case c =
    sym (refused _ _ (sym c.eq_ignore_ascii_case.ensures ∙ c.if-not-eq_ignore_ascii_case.true))
    ∙ sym (behind-heads _ _ _ _ c.in-Some.expected c.in-Some-next.found c.loop-expected.invariant.0 c.loop-expected.invariant.1 c.in-Some.ensures.steps.0 c.in-Some-next.ensures.steps.0)
    ∙ c.loop-expected.invariant.2

pub loop-expected-preserved : goal.loop-expected-preserved
loop-expected-preserved c = (
  IsUtf8-past_char _ _ c.in-Some.expected c.loop-expected.invariant.0 c.in-Some.ensures.steps.0,
  IsUtf8-past_char _ _ c.in-Some-next.found c.loop-expected.invariant.1 c.in-Some-next.ensures.steps.0,
  sym (chosen _ _ (sym c.eq_ignore_ascii_case.ensures ∙ c.if-not-eq_ignore_ascii_case.false))
      ∙ sym (behind-heads _ _ _ _ c.in-Some.expected c.in-Some-next.found c.loop-expected.invariant.0 c.loop-expected.invariant.1 c.in-Some.ensures.steps.0 c.in-Some-next.ensures.steps.0)
      ∙ c.loop-expected.invariant.2,
)

pub returns : goal.returns
returns c = ap (λ bs. Some (chars bs)) c.as_str.ensures ∙ sym (behind-ended (chars_rest c.loop-expected.expected-iterator) (chars_rest c.loop-expected.rest) (nil_from_length (chars_rest c.loop-expected.expected-iterator) c.in-None.ensures.steps.0.0)) ∙ c.loop-expected.invariant.2
