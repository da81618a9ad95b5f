use Rattle.std.proofs.Common.{rules, ◌++◌, ap}
use Rattle.sigv4.proofs.Marks.{behind_nothing}
use Rattle.sigv4.proofs.pieces.push_joined.Goals as goal

pub loop-text-init : goal.loop-text-init
loop-text-init c = record {
  text = search rules;
  plain = search rules;
  due = ap (λ s. c.args.out.now ++ s) (behind_nothing c.args.mark.now c.args.texts.now);
}
