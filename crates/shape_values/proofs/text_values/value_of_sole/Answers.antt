use Rattle.std.proofs.Common.{◌∷◌, [], ◌++◌, sym, ap, ◌∙◌}
use Rattle.shape_values.proofs.Due.{sole-json, sole-list}
use Rattle.shape_values.proofs.text_values.value_of_sole.Goals as goal

pub returns-then-begins_list : goal.returns-then-begins_list
returns-then-begins_list c = λ instants tells.
    sole-json instants c.args.model.now.shapes c.args.place c.args.shape.now c.args.text c.value_of_json.result (sym c.begins_list.ensures ∙ c.if-begins_list.true) (c.value_of_json.ensures instants tells)

pub returns : goal.returns
returns c = λ instants tells.
    let texts = c.into_vec.ensures ∙ c.in_ok-push.ensures.ok ∙ ap (λ ts. ts ++ c.args.text ∷ []) c.new-texts.ensures in
    sole-list instants c.args.model.now.shapes c.args.place c.args.shape.now c.args.text c.value_of_list.result c.into_vec.result.items (sym c.begins_list.ensures ∙ c.if-begins_list.false) texts
    (c.value_of_list.ensures instants tells)
