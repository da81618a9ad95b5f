use Rattle.std.proofs.Common.{◌≡◌, subst}
use Rattle.texts.specs.Keys.{keys, IsDistinct, put}
use Rattle.texts.proofs.Keyed.{IsDistinct-put}
use Rattle.texts.proofs.pairs.Pairs.put.Goals as goal

pub invariant_of-self : goal.invariant_of-self
invariant_of-self g c =
    let e : put c.self.inside.items c.args.key c.args.value ≡ c.set.new.self = cc (c.in-Some.ensures.found c.args.value) in
    subst (λ ps. IsDistinct (keys ps)) e (IsDistinct-put _ _ _ c.self.invariant)

pub invariant_of-self-in-Continue-1 : goal.invariant_of-self-in-Continue-1
invariant_of-self-in-Continue-1 g c =
    let e : put c.self.inside.items c.args.key c.args.value ≡ c.push.new.self = cc (c.in-None.ensures.none c.args.value, c.in_ok-push-in-None.ensures.ok) in
    subst (λ ps. IsDistinct (keys ps)) e (IsDistinct-put _ _ _ c.self.invariant)
