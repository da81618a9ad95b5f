use Rattle.std.proofs.Common.{◌&&◌, bytes_eq, ap, ◌∙◌}
use Rattle.std.specs.List.{list_any}
use Rattle.service_model.specs.Arguments.{negation_of}
use Rattle.service_model.proofs.Clashes.{any_more, second_more}
use Rattle.service_model.proofs.arguments.usage_of.Goals as goal

pub loop-argument-preserved : goal.loop-argument-preserved
loop-argument-preserved c =
    let args = c.args.arguments.now in let i = c.loop-argument.argument-index in let a = c.argument-item.result in
    let within = c.loop-argument-test.true in let is = c.argument-item.is in
    let before = c.loop-argument.usage in let named = c.add_name.new.usage in
    record {
      named = λ text. any_more (λ b. bytes_eq text b.name) args i a (list_any (bytes_eq text) before.names.keys) (list_any (bytes_eq text) named.names.keys) within is
          (c.loop-argument.invariant.named text) (c.in_ok-add_name.ensures.names text);
      repeated = λ text. second_more (λ b. bytes_eq text b.name) args i a (list_any (bytes_eq text) before.repeated.keys) (list_any (bytes_eq text) before.names.keys)
          (list_any (bytes_eq text) named.repeated.keys) within is (c.loop-argument.invariant.repeated text) (c.loop-argument.invariant.named text) (c.in_ok-add_name.ensures.repeated text);
      negated = λ text. any_more (λ b. b.is_flag && bytes_eq text (negation_of b.name)) args i a (list_any (bytes_eq text) named.negations.keys)
          (list_any (bytes_eq text) c.add_negation.new.negations.keys) within is
          (ap (λ set. list_any (bytes_eq text) set.keys) c.in_ok-add_name.ensures.negations ∙ c.loop-argument.invariant.negated text) (c.in_ok-add_negation.ensures text);
    }
