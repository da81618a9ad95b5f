use Rattle.std.proofs.Common.{◌≡◌, ℕ, ◌-◌, [], ◌∷◌, ◌++◌, refl, subst, arith, length-append}
use Rattle.call_retry.proofs.Outside.{tells_no_connection, tells_no_moment, tells_no_word, tells_connections_more, tells_moments_more, tells_words_more}
use Rattle.call_retry.proofs.Turns.{with_word, leads_end, leads_more}
use Rattle.call_retry.specs.Attempts.{told_after}
use Rattle.call_retry.specs.Calls.{GoesOn, quota_after}
use Rattle.call_retry.specs.Classes.{class_at}
use Rattle.call_retry.specs.Inside.{order_asked}
use Rattle.call_retry.specs.Retries.{decide}
use Rattle.call_retry.specs.declared.call_end.CallEnd.TheVariants as end
use Rattle.call_retry.proofs.calls.call.Goals as goal

pub loop-end-init : goal.loop-end-init
loop-end-init g c = record {
  live = c.requires.none_live;
  first = omega arith;
  most = omega (arith, c.requires.limit);
  limit = refl;
  going = (
    [],
    refl,
    λ rest how now follows. follows,
    tells_no_connection (order_asked c.args.asking) (g.L.Link.told c.args.link.now),
    tells_no_moment (g.C.Clock.told c.args.clock.now),
    tells_no_word (g.D.Dice.told c.args.dice.now),
  );
  link_later = omega arith;
  clock_later = omega arith;
  dice_later = omega arith;
}

pub returns-in-Ends-clause-made : goal.returns-in-Ends-clause-made
returns-in-Ends-clause-made g c =
    let order = order_asked c.args.asking in
    let turn = c.loop-end.turn in
    let left = c.loop-end.quota in
    let came = c.attempt-came.result in
    let how = c.in-Ends.end in
    let now = c.next_step.new.quota in
    let going = c.loop-end.invariant.going in
    let tried = c.attempt-came.ensures.made in
    let step = c.in-Ends.ensures.made in
    let a = with_word tried.0 step.0 in (
      going.0 ++ a ∷ [],
      leads_end order c.args.message.now c.args.quota.now going.0 turn.number left turn.back tried.0 came step.0 now how going.2 tried.2
          (subst (λ (limit : ℕ). GoesOn (decide (class_at came) turn.number limit left) step.0
          ((how ≡ told_after limit turn.number came) × (now ≡ quota_after left turn.back came)) ((how ≡ end.DiceFault) × (now ≡ left)) (λ c. ⊥))
          c.loop-end.invariant.limit step.1),
      tells_connections_more order going.0 a (g.L.Link.told c.args.link.now) (g.L.Link.told c.loop-end.link) (g.L.Link.told c.attempt-came.new.link)
          going.3 tried.3,
      tells_moments_more going.0 a turn.number (g.C.Clock.told c.args.clock.now) (g.C.Clock.told c.loop-end.clock)
          (g.C.Clock.told c.attempt-came.new.clock) (g.C.Clock.told c.next_step.new.clock) going.1 going.4 tried.4 step.2,
      tells_words_more going.0 a (g.D.Dice.told c.args.dice.now) (g.D.Dice.told c.loop-end.dice) (g.D.Dice.told c.next_step.new.dice) going.5 step.3,
    )

pub loop-end-preserved : goal.loop-end-preserved
loop-end-preserved g c =
    let order = order_asked c.args.asking in
    let turn = c.loop-end.turn in
    let left = c.loop-end.quota in
    let came = c.attempt-came.result in
    let cost = c.in-Again.cost in
    let now = c.next_step.new.quota in
    let going = c.loop-end.invariant.going in
    let tried = c.attempt-came.ensures.made in
    let step = c.in-Again.ensures.made in
    let a = with_word tried.0 step.0 in
    record {
      live = c.attempt-came.ensures.none_live;
      first = omega arith;
      most = omega (arith, c.in-Again.ensures.room);
      limit = c.loop-end.invariant.limit;
      going = (
        going.0 ++ a ∷ [],
        omega (arith, length-append going.0 (a ∷ []), going.1),
        leads_more order c.args.message.now c.args.quota.now going.0 turn.number left turn.back tried.0 came step.0 now cost going.2 tried.2
            (subst (λ (limit : ℕ). GoesOn (decide (class_at came) turn.number limit left) step.0 ⊥ ⊥ (λ c. (cost ≡ c) × (now ≡ left - c)))
            c.loop-end.invariant.limit step.1),
        tells_connections_more order going.0 a (g.L.Link.told c.args.link.now) (g.L.Link.told c.loop-end.link) (g.L.Link.told c.attempt-came.new.link)
            going.3 tried.3,
        tells_moments_more going.0 a turn.number (g.C.Clock.told c.args.clock.now) (g.C.Clock.told c.loop-end.clock)
            (g.C.Clock.told c.attempt-came.new.clock) (g.C.Clock.told c.next_step.new.clock) going.1 going.4 tried.4 step.2,
        tells_words_more going.0 a (g.D.Dice.told c.args.dice.now) (g.D.Dice.told c.loop-end.dice) (g.D.Dice.told c.next_step.new.dice) going.5 step.3,
      );
      link_later = omega (arith, c.loop-end.invariant.link_later, c.attempt-came.ensures.link_later);
      clock_later = omega (arith, c.loop-end.invariant.clock_later, c.attempt-came.ensures.clock_later, c.in-Again.ensures.clock_later);
      dice_later = omega (arith, c.loop-end.invariant.dice_later, c.in-Again.ensures.dice_later);
    }
