use Rattle.std.proofs.Common.{◌≡◌, ◌+◌, ◌++◌, Err, Ok, take, drop, sym, ap, subst, ◌∙◌}
use Rattle.std.proofs.lemmas.List.{drop_all, length-set}
use Rattle.service_model.specs.Shapes.{names_in}
use Rattle.texts.specs.Keys.{value_at, IsDistinct}
use Rattle.resp_parser.specs.Inside.{EndsBy}
use Rattle.resp_parser.specs.Members.{AreMembers, PlacedValue, entry_for}
use Rattle.resp_parser.specs.Paths.{to_name}
use Rattle.resp_parser.proofs.Ending.{may-below}
use Rattle.resp_parser.proofs.MemberSteps.{value-read, values-left}
use Rattle.resp_parser.proofs.Names.{AreNames, name-new, names-entry}
use Rattle.resp_parser.proofs.Placed.{Leads, leads-all, leads-more, leads-refused}
use Rattle.resp_parser.proofs.members.members_of.Goals as goal

pub push_value-requires : goal.push_value-requires
push_value-requires c =
    let members = c.as_slice-members.result.now in
    let own : IsDistinct (names_in members) = subst (λ xs. IsDistinct (names_in xs)) (sym c.as_slice-members.ensures) c.requires.own_names in
    name-new members c.loop-at.at c.index-members-at.result c.loop-at-test.true c.index-members-at.is c.loop-at.made c.loop-at.invariant.names own

pub returns-in-Err : goal.returns-in-Err
returns-in-Err c =
    let shapes = c.args.given.model.now.shapes in
    let reply = c.args.given.reply.now in
    let payload = c.args.given.shape.now.payload in
    let members = c.as_slice-members.result.now in
    let ps = c.args.fields in
    let m = c.index-members-at.result in
    let i = c.loop-at.at in
    let read = value-read members ps c.loop-at.values.items i m c.loop-at-test.true c.index-members-at.is c.loop-at.invariant.left c.index_mut.result.now c.index_mut.ensures.value in
    let placed = subst (λ v. EndsBy (λ value. value) (Err c.in-Err.fault) (PlacedValue shapes reply payload v m m.location)) (c.take.ensures.value ∙ read) c.in-Err.ensures in
    may-below (λ value. value) (λ made. made) (to_name m.name) c.in-Err.fault c.below_name.result (PlacedValue shapes reply payload (value_at m.wire ps) m m.location)
    (AreMembers shapes reply payload ps c.args.given.shape.now.members) c.below_name.ensures
    (λ path here. subst (λ xs. AreMembers shapes reply payload ps xs (Err (to_name m.name ++ path))) c.as_slice-members.ensures
    (leads-refused shapes reply payload ps members i m c.loop-at-test.true c.index-members-at.is c.loop-at.made c.loop-at.invariant.due path here)) placed

pub loop-at-preserved : goal.loop-at-preserved
loop-at-preserved c =
    let shapes = c.args.given.model.now.shapes in
    let reply = c.args.given.reply.now in
    let payload = c.args.given.shape.now.payload in
    let members = c.as_slice-members.result.now in
    let ps = c.args.fields in
    let m = c.index-members-at.result in
    let i = c.loop-at.at in
    let within = c.loop-at-test.true in
    let at = c.index-members-at.is in
    let read = value-read members ps c.loop-at.values.items i m within at c.loop-at.invariant.left c.index_mut.result.now c.index_mut.ensures.value in
    let placed = subst (λ v. PlacedValue shapes reply payload v m m.location (Ok c.in-Ok.value)) (c.take.ensures.value ∙ read) c.in-Ok.ensures in
    let pushed = c.in_ok-push_value-in-Ok.ensures in
    record {
      count = length-set c.loop-at.values.items i c.take.new.self ∙ c.loop-at.invariant.count;
      left = values-left members ps c.loop-at.values.items i m within at c.loop-at.invariant.left c.take.new.self;
      names = subst (λ xs. AreNames (take (i + 1) members) xs) (sym pushed) (names-entry members i m within at c.loop-at.made c.loop-at.invariant.names c.in-Ok.value);
      due = subst (Leads shapes reply payload ps (drop (i + 1) members) members) (sym pushed) (leads-more shapes reply payload ps members i m within at c.loop-at.made c.loop-at.invariant.due c.in-Ok.value placed);
    }

pub returns : goal.returns
returns c =
    let shapes = c.args.given.model.now.shapes in
    let reply = c.args.given.reply.now in
    let payload = c.args.given.shape.now.payload in
    let members = c.as_slice-members.result.now in
    let ended = subst (λ xs. Leads shapes reply payload c.args.fields xs members c.loop-at.made) (drop_all c.loop-at.at members c.loop-at-test.false) c.loop-at.invariant.due in
    subst (λ xs. AreMembers shapes reply payload c.args.fields xs (Ok c.loop-at.made)) c.as_slice-members.ensures (leads-all shapes reply payload c.args.fields members c.loop-at.made ended)
