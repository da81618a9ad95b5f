use Rattle.std.proofs.Common.{◌≡◌, ◌++◌, None, sym, ap, append-nil, ◌∙◌}
use Rattle.service_model.specs.Kept.{item_at}
use Rattle.serializer.proofs.NoParameters.{no_entries}
use Rattle.serializer.proofs.queries.push_entries.Goals as goal

pub returns-in_default : goal.returns-in_default
returns-in_default c =
    let shapes = c.args.model.now.shapes in
    let none : item_at shapes c.args.map ≡ None = sym c.item_of.ensures ∙ c.in_default.is in
    rw none (sym (ap (λ ps. c.args.out.now ++ ps) (no_entries shapes c.args.fields.now) ∙ append-nil c.args.out.now))
