use Rattle.std.proofs.Common.{nat_eq, ap, ◌∙◌}
use Rattle.std.specs.Cmp.Lexicographic.{pointwise}
use Rattle.std.specs.List.{list_any}
use Rattle.std.specs.Str.{bytes_eq}
use Rattle.indexmap.specs.IndexSet.{insert_key}
use Rattle.service_model.specs.Shapes.{names_in}
use Rattle.service_model.proofs.Among.{any_name_go, any_done}
use Rattle.service_model.proofs.shapes.member_names.Goals as goal

pub loop-member-preserved : goal.loop-member-preserved
loop-member-preserved c name =
    any_name_go name c.args.members.now c.loop-member.member-index c.member-item.result c.loop-member.names.keys c.insert.new.self.keys (list_any (bytes_eq name) (names_in c.args.members.now))
    c.loop-member-test.true c.member-item.is
    (c.in_ok-insert.ensures.keys ∙ ap (insert_key (pointwise nat_eq) c.loop-member.names.keys) c.in_ok-copy.ensures)
    (c.loop-member.invariant name)

pub returns : goal.returns
returns c name = any_done name c.args.members.now c.loop-member.member-index c.loop-member.names.keys _ c.loop-member-test.false (c.loop-member.invariant name)
