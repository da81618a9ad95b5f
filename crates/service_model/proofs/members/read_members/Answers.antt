use Rattle.std.proofs.Common.{◌+◌, drop, sym, subst, ap, ◌∙◌}
use Rattle.std.specs.Str.{chars}
use Rattle.model_files.specs.Faults.{each}
use Rattle.service_model.specs.Kept.{HasOwnNames}
use Rattle.service_model.specs.Members.{member_of, members_of}
use Rattle.model_files.proofs.Each.{with_front, each_goes, each_done, due_ok}
use Rattle.service_model.proofs.KeptShapes.{own_names}
use Rattle.service_model.proofs.members.read_members.Goals as goal

pub loop-pair-preserved : goal.loop-pair-preserved
loop-pair-preserved c =
    ap (λ made. with_front made (each (member_of c.args.names.now.entries) (drop (c.loop-pair.pair-index + 1) c.as_slice-pair-items.result.now))) c.in_ok-push.ensures.items
    ∙ each_goes (member_of c.args.names.now.entries) c.as_slice-pair-items.result.now c.loop-pair.pair-index c.pair-item.result c.in_ok-member.member c.loop-pair.members.items (each (member_of c.args.names.now.entries) c.args.pairs.now) c.loop-pair-test.true c.pair-item.is
    (due_ok (λ x. x) (chars c.as_str.result.now) (member_of c.args.names.now.entries c.pair-item.result) c.read_member.result c.in_ok-member.member c.read_member.ensures c.in_ok-member.ensures.value) c.loop-pair.invariant

pub returns-clause-distinct : goal.returns-clause-distinct
returns-clause-distinct c =
    subst HasOwnNames (sym c.from_vec.ensures)
    (own_names c.args.names.now.entries c.args.pairs.now c.loop-pair.members.items c.as_slice-pair-items.ensures.distinct
    (each_done (member_of c.args.names.now.entries) c.as_slice-pair-items.result.now c.loop-pair.pair-index c.loop-pair.members.items (members_of c.args.names.now.entries c.args.pairs.now)
    c.loop-pair-test.false c.loop-pair.invariant))
