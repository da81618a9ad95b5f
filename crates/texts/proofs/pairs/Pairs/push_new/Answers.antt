use Rattle.std.proofs.Common.{sym, subst}
use Rattle.texts.specs.Keys.{keys, IsNew}
use Rattle.texts.proofs.Keyed.{IsDistinct-push}
use Rattle.texts.proofs.pairs.Pairs.push_new.Goals as goal

pub invariant_of-self-2 : goal.invariant_of-self-2
invariant_of-self-2 g c =
    let new = subst (λ ps. IsNew c.args.key (keys ps)) (sym c.self.view_is) c.requires in
    rw c.in_ok-push.ensures.ok (IsDistinct-push _ _ c.self.invariant new)
