use Rattle.std.proofs.Common.{◌++◌, map, sym, ap, ◌∙◌, subst, append-nil}
use Rattle.std.specs.Prelude.{IsPermutation}
use Rattle.std.proofs.lemmas.List.{drop_all}
use Rattle.std.proofs.lemmas.List.Sorted.{IsPermutation-map, All-permutation}
use Rattle.sigv4.specs.Parameters.{shown}
use Rattle.sigv4.proofs.SortedPairs.{IsText, sorted_shown}
use Rattle.sigv4.proofs.parameters.sorted_query.Goals as goal

pub returns : goal.returns
returns c =
    let pairs = c.loop-name.sorted.items in
    let query = c.args.query.now in
    let sort = c.in_ok-sort.ensures in
    let end = drop_all c.loop-name.name-index query c.loop-name-test.false in
    let all = sym (append-nil (map shown pairs)) ∙ ap (λ rest. map shown pairs ++ rest) (sym end) ∙ c.loop-name.invariant.due in
    record {
      permutation = subst (λ q. IsPermutation q (map shown c.sort.new.self.items)) all (IsPermutation-map shown pairs c.sort.new.self.items sort.permutation);
      ascending = sorted_shown c.sort.new.self.items (All-permutation IsText pairs c.sort.new.self.items sort.permutation c.loop-name.invariant.texts) sort.sorted;
    }
