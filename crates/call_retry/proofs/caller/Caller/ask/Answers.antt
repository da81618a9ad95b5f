use Rattle.std.proofs.Common.{◌≡◌, [], sym, subst}
use Rattle.serializer.specs.Messages.{encoded}
use Rattle.call_retry.proofs.Outside.{tells_no_connection, tells_no_moment, tells_no_word}
use Rattle.call_retry.proofs.Turns.{unsent_call}
use Rattle.call_retry.specs.Callers.{order_of}
use Rattle.call_retry.specs.Calls.{IsCall}
use Rattle.call_retry.specs.declared.call_end.CallEnd.{CallEnd}
use Rattle.call_retry.proofs.caller.Caller.ask.Goals as goal

pub returns-in-Err-clause-called : goal.returns-in-Err-clause-called
returns-in-Err-clause-called g c =
    let caller = c.args.self.now in
    let order = order_of caller in
    let value = c.args.value.now in (
      [],
      subst (λ (how : CallEnd). IsCall order value caller.quota [] how caller.quota) (sym c.unencoded.ensures)
          (unsent_call order caller.quota c.in-Err.fault (encoded order.table order.op value order.endpoint) c.in-Err.ensures),
      tells_no_connection order (g.L.Link.told caller.link.now),
      tells_no_moment (g.C.Clock.told caller.clock.now),
      tells_no_word (g.D.Dice.told caller.dice.now),
    )
