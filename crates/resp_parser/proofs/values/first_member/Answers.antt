use Rattle.std.proofs.Common.{◌≡◌, ◌∷◌, ◌++◌, [], true, false, take, Some, sym, ap, subst, ◌∙◌}
use Rattle.std.specs.Prelude.{bytes_eq}
use Rattle.std.proofs.lemmas.Bool.{false≢true}
use Rattle.std.proofs.lemmas.List.{take_more}
use Rattle.std.proofs.lemmas.Slice.Eq.{bytes_eq-Decides}
use Rattle.texts.specs.Keys.{IsNew}
use Rattle.resp_parser.specs.Inside.{wires_in}
use Rattle.resp_parser.proofs.Wires.{new-push, wire-at}
use Rattle.resp_parser.proofs.values.first_member.Goals as goal

pub returns-then-eq-clause-found : goal.returns-then-eq-clause-found
returns-then-eq-clause-found c =
    let m = c.index-members-at.result in
    let same = (bytes_eq-Decides m.wire c.args.wire.now).0 (sym c.eq.ensures ∙ c.if-eq.true) in
    wire-at c.args.members.now c.loop-at.at m c.loop-at-test.true c.index-members-at.is ∙ ap Some same

pub loop-at-preserved : goal.loop-at-preserved
loop-at-preserved c =
    let members = c.args.members.now in
    let m = c.index-members-at.result in
    let other : bytes_eq m.wire c.args.wire.now ≡ false = sym c.eq.ensures ∙ c.if-eq.false in
    let next = take_more members c.loop-at.at m c.loop-at-test.true ∙ ap (λ x. take c.loop-at.at members ++ x ∷ []) (sym c.index-members-at.is) in
    subst (λ xs. IsNew c.args.wire.now (wires_in xs)) (sym next)
    (new-push c.args.wire.now (take c.loop-at.at members) m c.loop-at.invariant (λ e. false≢true (sym other ∙ (bytes_eq-Decides m.wire c.args.wire.now).1 (sym e))))
