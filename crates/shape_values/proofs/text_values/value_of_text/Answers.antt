use Rattle.std.proofs.Common.{sym, ◌∙◌}
use Rattle.shape_values.proofs.Due.{scalar-comes}
use Rattle.shape_values.proofs.text_values.value_of_text.Goals as goal

pub returns : goal.returns
returns c = λ instants tells.
    scalar-comes instants c.args.model.now.shapes c.args.place c.in-Some.shape.now c.in-Some.ensures c.args.text c.scalar_of.result (sym c.takes_json.ensures ∙ c.if-takes_json.false)
    (sym c.is_structure.ensures ∙ c.if-is_structure.false) (sym c.is_map.ensures ∙ c.if-is_map.false) (sym c.is_list.ensures ∙ c.if-is_list.false) (c.scalar_of.ensures instants tells)
