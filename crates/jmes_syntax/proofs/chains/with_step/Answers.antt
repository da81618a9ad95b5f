use Rattle.std.proofs.Common.{◌≡◌, [], ◌∷◌, ◌++◌, sym, ◌∙◌}
use Rattle.jmes_syntax.proofs.SegmentEnds.{last_segment}
use Rattle.jmes_syntax.proofs.chains.with_step.Goals as goal

pub returns-in_ok-push-in-Some-2 : goal.returns-in_ok-push-in-Some-2
returns-in_ok-push-in-Some-2 c =
    let whole : c.args.chain.flattened ≡ c.pop.new.self.items ++ c.in-Some.segment ∷ [] = sym c.into_vec-segments.ensures ∙ c.in-Some.ensures.items in
    rw (whole, c.in_ok-push-in-Some-2.ensures.ok, c.from_vec-flattened.ensures, c.in_ok-push-in-Some.ensures.ok)
    (sym (last_segment c.args.chain.first c.pop.new.self.items c.in-Some.segment c.args.step))
