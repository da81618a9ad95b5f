use Rattle.std.proofs.Common.{◌≡◌, ◌++◌, None, sym, ap, append-nil, ◌∙◌}
use Rattle.service_model.specs.Kept.{item_at}
use Rattle.serializer.proofs.NoParameters.{no_items}
use Rattle.serializer.proofs.queries.push_items.Goals as goal

pub returns-in_default : goal.returns-in_default
returns-in_default c =
    let shapes = c.args.model.now.shapes in
    let none : item_at shapes c.args.list ≡ None = sym c.item_of.ensures ∙ c.in_default.is in
    rw none (sym (ap (λ ps. c.args.out.now ++ ps) (no_items shapes c.args.name.now c.args.items.now) ∙ append-nil c.args.out.now))
