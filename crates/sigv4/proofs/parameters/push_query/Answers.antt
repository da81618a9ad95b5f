use Rattle.std.proofs.Common.{rules, ℕ, List, [], ◌+◌, ◌++◌, drop, map, get_or, sym, ap, ◌∙◌, Bor}
use Rattle.std.specs.Prelude.{codes}
use Rattle.std.proofs.lemmas.List.{at_drop_more}
use Rattle.uri_texts.specs.Parameters.{parameter}
use Rattle.sigv4.specs.Parameters.{shown}
use Rattle.sigv4.proofs.Marks.{behind, behind_nothing, one_more}
use Rattle.sigv4.proofs.parameters.push_query.Goals as goal

pub loop-name-init : goal.loop-name-init
loop-name-init c = record {
  text = search rules;
  plain = search rules;
  due = ap (λ s. c.args.out.now ++ s) (behind_nothing (codes "&") (map parameter (map shown c.args.sorted.now)));
}

pub loop-name-preserved : goal.loop-name-preserved
loop-name-preserved c =
    let sorted = c.args.sorted.now in
    let index = c.loop-name.name-index in
    let none : Bor (List ℕ) × Bor (List ℕ) = (record { ref_ptr = (0, 0); now = [] }, record { ref_ptr = (0, 0); now = [] }) in
    let here = parameter (shown (get_or sorted index none)) in
    let out = c.loop-name.out in
    let before = c.loop-name.before.now in
    let due = map parameter (map shown (drop (index + 1) sorted)) in
    let put = c.in_ok-push_parameter.ensures ∙ ap (λ s. s ++ here) c.in_ok-push_ascii.ensures.ok in
    record {
      text = search rules;
      plain = search rules;
      due = ap (λ s. s ++ behind (codes "&") (codes "&") due) put ∙ one_more out before (codes "&") here due
          ∙ ap (λ ps. out ++ behind before (codes "&") ps) (sym (at_drop_more (λ ps. map parameter (map shown ps)) sorted index none c.loop-name-test.true))
          ∙ c.loop-name.invariant.due;
    }
