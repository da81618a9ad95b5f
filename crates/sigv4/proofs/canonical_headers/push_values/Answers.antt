use Rattle.std.proofs.Common.{rules, ◌≡◌, ◌+◌, ◌++◌, Bool, true, false, not, drop, refl, sym, ap, ◌∙◌}
use Rattle.std.specs.Prelude.{codes}
use Rattle.std.specs.Str.{chars}
use Rattle.sigv4.specs.Headers.{values_of}
use Rattle.sigv4.proofs.HeaderSteps.{value_here}
use Rattle.sigv4.proofs.Marks.{behind, behind_nothing, one_more}
use Rattle.sigv4.proofs.canonical_headers.push_values.Goals as goal

from_not : (b : Bool) → not b ≡ false → b ≡ true
from_not true h = refl
from_not false h = cc

pub loop-other-init : goal.loop-other-init
loop-other-init c = record {
  text = search rules;
  plain = search rules;
  due = ap (λ s. c.args.out.now ++ s) (behind_nothing (codes ",") (values_of c.args.fields.now c.args.name.now));
}

pub loop-other-preserved : goal.loop-other-preserved
loop-other-preserved c =
    let fields = c.args.fields.now in
    let name = c.args.name.now in
    let index = c.loop-other.other-index in
    let item = c.loop-other-item.result in
    let out = c.loop-other.out in
    let before = c.loop-other.before.now in
    let due = values_of (drop (index + 1) fields) name in
    let put = c.in_ok-push_str.ensures.ok ∙ ap (λ s. s ++ chars c.as_str.result.now) c.in_ok-push_ascii.ensures.ok
    ∙ ap (λ v. (out ++ before) ++ v) c.as_str.ensures.value in
    record {
      text = search rules;
      plain = search rules;
      due = ap (λ s. s ++ behind (codes ",") (codes ",") due) put ∙ one_more out before (codes ",") item.1 due
          ∙ ap (λ vs. out ++ behind before (codes ",") vs) (sym (value_here fields index item c.loop-other-test.true c.loop-other-item.is name (from_not _ (sym c.ne.ensures ∙ c.if-ne.false))))
          ∙ c.loop-other.invariant.due;
    }
