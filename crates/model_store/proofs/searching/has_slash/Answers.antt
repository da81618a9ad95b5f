use Rattle.std.proofs.Common.{◌||◌, ◌==◌, sym, ap, ◌∙◌}
use Rattle.std.proofs.lemmas.Bool.{ne_eqb}
use Rattle.std.proofs.lemmas.Str.{IsUtf8-past_char, chars_past_char}
use Rattle.std.proofs.StrCases.{chars_of_empty}
use Rattle.std.specs.Str.{chars}
use Rattle.std.specs.Str.Iter.{chars_rest}
use Rattle.model_store.specs.Versions.{has_slash}
use Rattle.model_store.proofs.searching.has_slash.Goals as goal

pub returns-then-c-eq47 : goal.returns-then-c-eq47
returns-then-c-eq47 c =
    sym (ap has_slash (chars_past_char _ _ _ c.loop-c.invariant.0 c.in-Some.ensures.steps.0)
    ∙ ap (λ b. (b == 47) || has_slash (chars (chars_rest c.next.new.self))) c.if-c-eq47.true) ∙ c.loop-c.invariant.1

pub loop-c-preserved : goal.loop-c-preserved
loop-c-preserved c = (
  IsUtf8-past_char _ _ _ c.loop-c.invariant.0 c.in-Some.ensures.steps.0,
  sym (ap has_slash (chars_past_char _ _ _ c.loop-c.invariant.0 c.in-Some.ensures.steps.0)
      ∙ ap (λ is. is || has_slash (chars (chars_rest c.next.new.self))) (ne_eqb c.in-Some.c 47 c.if-c-eq47.false)) ∙ c.loop-c.invariant.1,
)

pub returns : goal.returns
returns c = sym (ap has_slash (chars_of_empty _ c.in-None.ensures.steps.0.0)) ∙ c.loop-c.invariant.1
