use Rattle.std.proofs.Common.{◌<◌, ◌++◌, length, set, true, false, sym, ap, subst, ◌∙◌, arith}
use Rattle.std.proofs.lemmas.List.{get_or_read}
use Rattle.service_model.proofs.Leading.{IsSearch, starts, skips, takes, ends_empty, due_within}
use Rattle.service_model.proofs.Noted.{less_owed, users_here}
use Rattle.service_model.proofs.reach.leading_to.Goals as goal

pub loop-at-init : goal.loop-at-init
loop-at-init c =
    subst (λ leads. IsSearch c.args.shapes.now c.args.marked.now leads c.in_ok-work.work.items) (sym (c.in_ok-leads.ensures.items_if_clones_equal (λ y is. is)))
    (starts c.args.shapes.now c.args.marked.now c.in_ok-work.work.items c.in_ok-work.ensures)

pub index-requires : goal.index-requires
index-requires c =
    let going = subst (λ work. IsSearch c.args.shapes.now c.args.marked.now c.loop-at.leads.items work) c.in-Some.ensures.items c.loop-at.invariant in
    omega (arith, due_within c.args.shapes.now c.args.marked.now c.loop-at.leads.items c.pop.new.self.items c.in-Some.at c.requires.marks going, c.loop-at.invariant.size, c.loop-at.leads.ok.0)

pub loop-at-preserved-then-index : goal.loop-at-preserved-then-index
loop-at-preserved-then-index c =
    let shapes = c.args.shapes.now in let marked = c.args.marked.now in let leads = c.loop-at.leads.items in let at = c.in-Some.at in let work = c.pop.new.self.items in
    let going = subst (λ ns. IsSearch shapes marked leads ns) c.in-Some.ensures.items c.loop-at.invariant in
    let within : at < length leads = omega (arith, due_within shapes marked leads work at c.requires.marks going, c.loop-at.invariant.size) in
    skips shapes marked leads work at (sym (get_or_read leads at c.index.result.now within c.index.ensures false) ∙ c.if-index.true) going

pub index_mut-requires : goal.index_mut-requires
index_mut-requires c =
    let going = subst (λ work. IsSearch c.args.shapes.now c.args.marked.now c.loop-at.leads.items work) c.in-Some.ensures.items c.loop-at.invariant in
    omega (arith, due_within c.args.shapes.now c.args.marked.now c.loop-at.leads.items c.pop.new.self.items c.in-Some.at c.requires.marks going, c.loop-at.invariant.size, c.loop-at.leads.ok.0)

pub index-requires-in-Some : goal.index-requires-in-Some
index-requires-in-Some c =
    let going = subst (λ work. IsSearch c.args.shapes.now c.args.marked.now c.loop-at.leads.items work) c.in-Some.ensures.items c.loop-at.invariant in
    omega (arith, due_within c.args.shapes.now c.args.marked.now c.loop-at.leads.items c.pop.new.self.items c.in-Some.at c.requires.marks going, c.in_ok-users.ensures.size, c.in_ok-users.users.ok.0)

pub loop-at-preserved : goal.loop-at-preserved
loop-at-preserved c =
    let shapes = c.args.shapes.now in let marked = c.args.marked.now in let leads = c.loop-at.leads.items in let at = c.in-Some.at in let work = c.pop.new.self.items in
    let users = c.in_ok-users.users.items in let list = c.index-in-Some.result.now in
    let going = subst (λ ns. IsSearch shapes marked leads ns) c.in-Some.ensures.items c.loop-at.invariant in
    let due : at < length shapes = due_within shapes marked leads work at c.requires.marks going in
    let within : at < length leads = omega (arith, due, c.loop-at.invariant.size) in
    let in_users : at < length users = omega (arith, due, c.in_ok-users.ensures.size) in
    subst (λ ns. IsSearch shapes marked (set leads at true) ns) (sym (c.in_ok-extend_from_slice.ensures.items ∙ ap (λ ns. work ++ ns) c.as_slice.ensures.value))
    (takes shapes marked leads work list.items at within
    (λ n. users_here users at n list in_users c.index-in-Some.ensures ∙ c.in_ok-users.ensures.listed at n) going)

pub loop-at-smaller : goal.loop-at-smaller
loop-at-smaller c =
    let shapes = c.args.shapes.now in let marked = c.args.marked.now in let leads = c.loop-at.leads.items in let at = c.in-Some.at in let work = c.pop.new.self.items in
    let users = c.in_ok-users.users.items in let list = c.index-in-Some.result.now in
    let going = subst (λ ns. IsSearch shapes marked leads ns) c.in-Some.ensures.items c.loop-at.invariant in
    let due : at < length shapes = due_within shapes marked leads work at c.requires.marks going in
    let within : at < length leads = omega (arith, due, c.loop-at.invariant.size) in
    let in_users : at < length users = omega (arith, due, c.in_ok-users.ensures.size) in
    less_owed leads users at list c.loop-at.work.items work c.extend_from_slice.new.self.items within in_users
    (sym (get_or_read leads at c.index.result.now within c.index.ensures false) ∙ c.if-index.false) c.index-in-Some.ensures
    c.in-Some.ensures.items (c.in_ok-extend_from_slice.ensures.items ∙ ap (λ ns. work ++ ns) c.as_slice.ensures.value)

pub returns : goal.returns
returns c =
    ends_empty c.args.shapes.now c.args.marked.now c.loop-at.leads.items c.loop-at.work.items (omega (arith, c.in_default.ensures.cases, c.loop-at.work.ok.0)) c.loop-at.invariant
