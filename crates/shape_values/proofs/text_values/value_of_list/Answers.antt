use Rattle.std.proofs.Common.{◌≡◌, ◌+◌, ◌∷◌, [], ◌++◌, length, Ok, Err, rules, arith, length-append, append-nil, sym, subst, ◌∙◌}
use Rattle.std.proofs.lemmas.List.{nil_from_length}
use Rattle.std.specs.Vec.Iter.{into_iter_items}
use Rattle.shape_values.specs.Faults.{is_memory, to_item, under}
use Rattle.shape_values.specs.TextValues.{IsElement}
use Rattle.shape_values.proofs.Due.{Goes, comes-part, goes-begin, goes-more, goes-fails, goes-done, list-fails, list-done}
use Rattle.shape_values.proofs.Each.{Comes, unless-map}
use Rattle.shape_values.proofs.text_values.value_of_list.Goals as goal

pub loop-text-init : goal.loop-text-init
loop-text-init c = record {
  next = search rules;
  finite = search rules;
  goes = λ instants tells.
      let shapes = c.args.model.now.shapes in
      let item = c.args.shape.now.item in
      let texts = c.args.texts.items in
      subst (λ made. Goes instants shapes item made (into_iter_items c.into_iter-text-iterator.result) texts) (sym c.new-made.ensures)
      (subst (λ rest. Goes instants shapes item [] rest texts) (sym c.into_iter-text-iterator.ensures.into_iter_gives.0) (goes-begin instants shapes item texts));
}

pub loop-text-preserved : goal.loop-text-preserved
loop-text-preserved c = record {
  next = search rules;
  finite = search rules;
  goes = λ instants tells.
      let shapes = c.args.model.now.shapes in
      let item = c.args.shape.now.item in
      let texts = c.args.texts.items in
      let made = c.loop-text.made in
      let rest = into_iter_items c.next.new.self in
      let t = c.in-Some.text in
      let v = c.in-Ok.value in
      let part = comes-part (IsElement instants shapes item t) (to_item (length made)) c.element_value-value.result (Ok v) (c.element_value-value.ensures instants tells)
      (subst (λ n. Comes (Ok v) (under (to_item n) c.element_value-value.result)) c.len.ensures c.in-Ok.ensures) in
      let longer : length (made ++ v ∷ []) ≡ length made + 1 = omega (arith, length-append made (v ∷ [])) in
      let goes = subst (λ left. Goes instants shapes item made left texts) c.in-Some.ensures.steps.0 (c.loop-text.invariant.goes instants tells) in
      subst (λ now. Goes instants shapes item now rest texts) (sym c.in_ok-push-in-Ok.ensures.ok) (goes-more instants shapes item made t rest texts v part longer goes);
}

pub returns-in-Err : goal.returns-in-Err
returns-in-Err c = λ instants tells.
    let shapes = c.args.model.now.shapes in
    let item = c.args.shape.now.item in
    let texts = c.args.texts.items in
    let made = c.loop-text.made in
    let t = c.in-Some.text in
    let fault = c.in-Err.fault in
    let part = comes-part (IsElement instants shapes item t) (to_item (length made)) c.element_value-value.result (Err fault) (c.element_value-value.ensures instants tells)
    (subst (λ n. Comes (Err fault) (under (to_item n) c.element_value-value.result)) c.len.ensures c.in-Err.ensures) in
    let goes = subst (λ left. Goes instants shapes item made left texts) c.in-Some.ensures.steps.0 (c.loop-text.invariant.goes instants tells) in
    unless-map (is_memory fault) (λ is. list-fails instants shapes c.args.shape.now texts (sym c.holds_lists.ensures ∙ c.if-holds_lists.false) fault
    (goes-fails instants shapes item made t (into_iter_items c.next.new.self) texts fault is goes)) part

pub returns : goal.returns
returns c = λ instants tells.
    let shapes = c.args.model.now.shapes in
    let item = c.args.shape.now.item in
    let texts = c.args.texts.items in
    let made = c.loop-text.made in
    let nil : into_iter_items c.loop-text.text-iterator ≡ [] = nil_from_length _ (sym c.loop-text.text-iterator.rest.ok.0 ∙ c.in-None.ensures.steps.0) in
    let goes = subst (λ left. Goes instants shapes item made left texts) nil (c.loop-text.invariant.goes instants tells) in
    list-done instants shapes c.args.shape.now texts (sym c.holds_lists.ensures ∙ c.if-holds_lists.false) made (made ++ []) (sym (append-nil made)) (goes-done instants shapes item made texts goes)
