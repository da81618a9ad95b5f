use Rattle.std.proofs.Common.{◌≡◌, rules, ap, ◌∙◌}
use Rattle.std.specs.Ordering.{is_lt}
use Rattle.std.proofs.lemmas.List.Sorted.{answers_always}
use Rattle.jmes_eval.specs.Orders.{is_before, sorted}
use Rattle.jmes_eval.specs.Inside.{looked}
use Rattle.jmes_eval.proofs.KeyOrder.{before_order}
use Rattle.jmes_eval.proofs.StableSorts.{sorted-is, sorted-map}
use Rattle.jmes_eval.proofs.sorting.ascending.Goals as goal

pub returns : goal.returns
returns c =
    let order = before_order (λ x. x.now) in
    let compares = answers_always _ (λ a r. is_lt r ≡ is_before (a.0.now.now) (a.1.0.now.now)) _ (λ f a r f' k. search rules) in
    let up = c.in_ok-sort_by.ensures.sorted (λ x y. is_before (x.now) (y.now)) order compares in
    let stable = c.sort_by.ensures.stable (λ x y. is_before (x.now) (y.now)) order compares in
    ap looked (sorted-is (λ x y. is_before (x.now) (y.now)) order c.in_ok-places.places.items c.sort_by.new.self.items up stable)
    ∙ sorted-map is_before (λ x. x.now) c.in_ok-places.places.items ∙ ap (sorted is_before) c.in_ok-places.ensures
