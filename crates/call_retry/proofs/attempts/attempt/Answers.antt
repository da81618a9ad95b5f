use Rattle.std.proofs.Common.{◌≡◌, Bool, [], None, Some, refl, sym, subst}
use Rattle.aws_world.specs.Told.{Tells}
use Rattle.http_exchange.proofs.Joins.{tells_no_exchange, tells_one_more}
use Rattle.http_exchange.specs.Exchange.{AddsExchange}
use Rattle.http_exchange.specs.Exchanges.{Exchanged}
use Rattle.call_retry.specs.Attempts.{Attempt, IsUnsent, is_head_only}
use Rattle.call_retry.specs.Inside.{order_asked}
use Rattle.call_retry.proofs.attempts.attempt.Goals as goal

pub returns-in-Err-clause-made : goal.returns-in-Err-clause-made
returns-in-Err-clause-made g c =
    let order = order_asked c.args.asking in
    let made = c.in-Err.ensures.made in (
      record { moment = made.0; exchange = None; word = None },
      refl,
      subst (IsUnsent order.signer made.0) (sym c.unsent.ensures) made.1,
      tells_no_exchange order.target (is_head_only order) _,
      made.2,
    )

pub returns-clause-made : goal.returns-clause-made
returns-clause-made g c =
    let order = order_asked c.args.asking in
    let made = c.in-Ok.ensures.made in
    let x : Exchanged = record { request = c.in-Ok.request; outcome = c.exchange-outcome.result } in
    let first = g.L.Link.told c.args.link.now in
    let last = g.L.Link.told c.exchange-outcome.new.link in
    let head : c.is-head_only.result ≡ is_head_only order = c.is-head_only.ensures.ascii refl in (
      record { moment = made.0; exchange = Some x; word = None },
      refl,
      (made.1, c.outcome_read.ensures.read),
      tells_one_more order.target (is_head_only order) [] x first first last (tells_no_exchange order.target (is_head_only order) first)
          (subst (λ (h : Bool). Tells first last (AddsExchange order.target x.request h x.outcome)) head c.exchange-outcome.ensures.adds),
      made.2,
    )
