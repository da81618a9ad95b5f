use Rattle.std.proofs.Common.{rules, [], ◌++◌, map, ap, ◌∙◌}
use Rattle.std.specs.Prelude.{codes}
use Rattle.value_texts.proofs.Marking.{behind, behind_nothing, next_text}
use Rattle.serializer.specs.HeaderTexts.{list_item, item_text}
use Rattle.serializer.proofs.header_lists.joined_items.Goals as goal

pub loop-item-init : goal.loop-item-init
loop-item-init c =
    let texts = map (item_text c.args.model.now.shapes c.args.slot) c.args.items.now in
    record {
      text = search rules;
      plain = search rules;
      due = ap (λ s. s ++ behind [] (codes ",") texts) c.new-out.ensures ∙ behind_nothing (codes ",") texts;
    }

pub loop-item-preserved : goal.loop-item-preserved
loop-item-preserved c =
    let f = item_text c.args.model.now.shapes c.args.slot in
    let item = c.item-item.result in
    let put = c.in_ok-push_list_item.ensures ∙ ap (λ t. c.push_ascii.new.self ++ list_item t) c.in_ok-text.ensures ∙ ap (λ s. s ++ f item) c.in_ok-push_ascii.ensures.ok in
    record {
      text = search rules;
      plain = search rules;
      due = next_text f c.args.items.now c.loop-item.item-index item c.loop-item-test.true c.item-item.is c.loop-item.out c.loop-item.before.now (codes ",") c.push_list_item.new.out put
          ∙ c.loop-item.invariant.due;
    }
