use Rattle.std.proofs.Common.{◌≡◌, rules, ap, ◌∙◌}
use Rattle.std.specs.Ordering.{is_lt}
use Rattle.std.proofs.lemmas.List.Sorted.{answers_always}
use Rattle.jmes_eval.specs.Inside.{entry_of, entries_of, seen_doc}
use Rattle.jmes_eval.specs.Meaning.{key_before}
use Rattle.jmes_eval.specs.Orders.{is_before}
use Rattle.jmes_eval.proofs.KeyOrder.{before_order}
use Rattle.jmes_eval.proofs.StableSorts.{sorted-is, sorted-map}
use Rattle.jmes_eval.proofs.sorting.ascend.Goals as goal

pub returns : goal.returns
returns c =
    let order = before_order (λ x. seen_doc x.key) in
    let compares = answers_always _ (λ a r. is_lt r ≡ is_before (seen_doc a.0.now.key) (seen_doc a.1.0.now.key)) _ (λ f a r f' k. search rules) in
    let up = c.in_ok-sort_by.ensures.sorted (λ x y. is_before (seen_doc x.key) (seen_doc y.key)) order compares in
    let stable = c.sort_by.ensures.stable (λ x y. is_before (seen_doc x.key) (seen_doc y.key)) order compares in
    ap entries_of (sorted-is (λ x y. is_before (seen_doc x.key) (seen_doc y.key)) order c.args.entries.now.items c.sort_by.new.self.items up stable)
    ∙ sorted-map key_before entry_of c.args.entries.now.items
