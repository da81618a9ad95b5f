use Rattle.texts.proofs.Keyed.{put_at}
use Rattle.texts.proofs.pairs.place_of.Goals as goal

pub returns-then-eq-clause-found : goal.returns-then-eq-clause-found
returns-then-eq-clause-found g c = λ v.
    put_at c.args.pairs.now c.loop-at.at c.args.key.now v c.index-pairs-at.result c.loop-at-test.true c.index-pairs-at.is (cc) (c.loop-at.invariant v)
