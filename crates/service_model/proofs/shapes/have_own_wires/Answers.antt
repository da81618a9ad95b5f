use Rattle.std.proofs.Common.{sym, ◌∙◌}
use Rattle.service_model.proofs.OwnWires.{own_where_kept}
use Rattle.service_model.proofs.shapes.have_own_wires.Goals as goal

pub returns-then-keep_names : goal.returns-then-keep_names
returns-then-keep_names c = sym (own_where_kept c.args.members.now c.requires (sym c.keep_names.ensures ∙ c.if-keep_names.true))
