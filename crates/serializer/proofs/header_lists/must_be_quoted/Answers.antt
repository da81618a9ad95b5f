use Rattle.std.proofs.Common.{◌||◌, sym, ap, ◌∙◌}
use Rattle.std.proofs.lemmas.Str.{IsUtf8-past_char, chars_past_char}
use Rattle.std.proofs.StrCases.{chars_of_empty}
use Rattle.std.specs.Str.{chars}
use Rattle.std.specs.Str.Iter.{chars_rest}
use Rattle.serializer.specs.HeaderTexts.{is_quoted}
use Rattle.serializer.proofs.header_lists.must_be_quoted.Goals as goal

pub returns-then-is_mark : goal.returns-then-is_mark
returns-then-is_mark c =
    let here = ap is_quoted (chars_past_char _ _ _ c.loop-c.invariant.utf8 c.in-Some.ensures.steps.0) in
    let rest = is_quoted (chars (chars_rest c.next.new.self)) in
    sym (here ∙ ap (λ b. b || rest) (sym c.is_mark.ensures ∙ c.if-is_mark.true)) ∙ c.loop-c.invariant.left

pub loop-c-preserved : goal.loop-c-preserved
loop-c-preserved c =
    let utf8 = c.loop-c.invariant.utf8 in
    let seam = c.in-Some.ensures.steps.0 in
    let here = ap is_quoted (chars_past_char _ _ _ utf8 seam) in
    let rest = is_quoted (chars (chars_rest c.next.new.self)) in
    record {
      utf8 = IsUtf8-past_char _ _ _ utf8 seam;
      left = sym (here ∙ ap (λ b. b || rest) (sym c.is_mark.ensures ∙ c.if-is_mark.false)) ∙ c.loop-c.invariant.left;
    }

pub returns : goal.returns
returns c = ap is_quoted (sym (chars_of_empty _ c.in-None.ensures.steps.0.0)) ∙ c.loop-c.invariant.left
