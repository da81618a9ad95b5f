-- Exchanges one after another, as what they do to the list of connections that a link has made.
use Rattle.std.specs.Prelude.{◌≡◌, ℕ, Bool, List, [], ◌∷◌, ◌++◌, length, ◌↔◌}
use Rattle.aws_world.specs.declared.connection.Connection.{Connection}
use Rattle.aws_world.specs.declared.message.Target.{Target}
use Rattle.http_exchange.specs.Exchange.{AddsExchange}
use Rattle.http_reply.specs.declared.outcome.Outcome.{Outcome}

-- the bytes of a request, and what came of it
pub record Exchanged : Type 0 where
  pub request : List ℕ
  pub outcome : Outcome

-- a connection more for each exchange, in their order
abbrev pub AddsExchanges : Target → Bool → List Exchanged → List Connection → List Connection → Type 0
AddsExchanges target head_only [] before after = after ≡ before
AddsExchanges target head_only (x ∷ xs) before after =
    (mid : List Connection) × AddsExchange target x.request head_only x.outcome before mid × AddsExchanges target head_only xs mid after

-- some exchanges and then others are all of them
abbrev pub ExchangesJoin : Type 0
ExchangesJoin = (target : Target) (head_only : Bool) (xs ys : List Exchanged) (before after : List Connection)
    → AddsExchanges target head_only (xs ++ ys) before after
    ↔ ((mid : List Connection) × AddsExchanges target head_only xs before mid × AddsExchanges target head_only ys mid after)

-- the connections so far stay, and as many as the exchanges come behind them
abbrev pub ExchangesAreCounted : Type 0
ExchangesAreCounted = (target : Target) (head_only : Bool) (xs : List Exchanged) (before after : List Connection)
    → AddsExchanges target head_only xs before after
    → (cs : List Connection) × (after ≡ before ++ cs) × (length cs ≡ length xs)
