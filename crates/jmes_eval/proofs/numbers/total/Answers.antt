use Rattle.std.proofs.Common.{◌+◌, Some, false, drop, sym, ap, ◌∙◌}
use Rattle.std.specs.Prelude.{fold}
use Rattle.std.proofs.lemmas.List.{at_drop_more}
use Rattle.jmes_eval.specs.Numbers.{added, sum_of_two, whole}
use Rattle.jmes_eval.proofs.DecimalOf.{decimal_is}
use Rattle.jmes_eval.proofs.Sums.{sum-some, sum-none, total-none}
use Rattle.jmes_eval.proofs.numbers.total.Goals as goal

pub loop-n-init : goal.loop-n-init
loop-n-init c = ap (λ o. fold added o c.args.numbers.now) (sym (decimal_is (whole false 0) c.whole-total.result c.whole-total.ensures))

pub returns-in-None : goal.returns-in-None
returns-in-None c =
    let ns = c.args.numbers.now in
    let i = c.loop-n.n-index in
    let t = c.loop-n.total in
    let n = c.n-item.result in
    let step = at_drop_more (fold added (Some t)) ns i n c.loop-n-test.true in
    let here = ap (λ m. fold added (sum_of_two t m) (drop (i + 1) ns)) (sym c.n-item.is) in
    let none = ap (λ o. fold added o (drop (i + 1) ns)) (sum-none t n c.in-None.ensures.none) in
    sym (sym c.loop-n.invariant ∙ step ∙ here ∙ none ∙ total-none (drop (i + 1) ns))

pub loop-n-preserved : goal.loop-n-preserved
loop-n-preserved c =
    let ns = c.args.numbers.now in
    let i = c.loop-n.n-index in
    let t = c.loop-n.total in
    let n = c.n-item.result in
    let step = at_drop_more (fold added (Some t)) ns i n c.loop-n-test.true in
    let here = ap (λ m. fold added (sum_of_two t m) (drop (i + 1) ns)) (sym c.n-item.is) in
    let some = ap (λ o. fold added o (drop (i + 1) ns)) (sum-some t n c.in-Some.sum c.in-Some.ensures.some) in
    sym (step ∙ here ∙ some) ∙ c.loop-n.invariant
