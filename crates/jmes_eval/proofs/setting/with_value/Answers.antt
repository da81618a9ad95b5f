use Rattle.std.proofs.Common.{ap, ◌∙◌}
use Rattle.jmes_eval.specs.Setting.{names_in}
use Rattle.jmes_eval.proofs.Settings.{wrapped, wrapped-along, wrapped-pop}
use Rattle.jmes_eval.proofs.setting.with_value.Goals as goal

pub loop-name-init : goal.loop-name-init
loop-name-init c = ap (λ xs. wrapped xs c.args.value) c.in_ok-objects.ensures ∙ wrapped-along (names_in c.args.steps.now) c.args.value c.args.doc.now

pub loop-name-preserved : goal.loop-name-preserved
loop-name-preserved c =
    rw c.in_ok-with_field.ensures (wrapped-pop c.loop-name.objects.items c.pop.new.self.items (c.in-Some.name, c.in-Some.object) c.loop-name.made _ c.in-Some.ensures.items c.loop-name.invariant)
