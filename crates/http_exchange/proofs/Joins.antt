-- Exchanges one after another.
use Rattle.std.proofs.Common.{◌≡◌, Bool, suc, List, [], ◌∷◌, ◌++◌, length, Option, refl, sym, ap, ◌∙◌, subst, append_assoc, append-nil}
use Rattle.aws_world.proofs.Told.{tells_none, tells_both}
use Rattle.aws_world.specs.Told.{Tells}
use Rattle.aws_world.specs.declared.connection.Connection.{Connection}
use Rattle.aws_world.specs.declared.message.Target.{Target}
use Rattle.http_exchange.specs.Exchange.{AddsExchange}
use Rattle.http_exchange.specs.Exchanges.{Exchanged, AddsExchanges, ExchangesJoin, ExchangesAreCounted}

module _ (target : Target) (head_only : Bool) where
  abbrev Adds : List Exchanged → List Connection → List Connection → Type 0
  Adds = AddsExchanges target head_only

  pub adds_more : (xs ys : List Exchanged) (before mid after : List Connection) → Adds xs before mid → Adds ys mid after → Adds (xs ++ ys) before after
  adds_more [] ys before mid after e more = subst (λ cs. Adds ys cs after) e more
  adds_more (x ∷ xs) ys before mid after first more = (first.0, first.1, adds_more xs ys first.0 mid after first.2 more)

  adds_cut : (xs ys : List Exchanged) (before after : List Connection) → Adds (xs ++ ys) before after
      → (mid : List Connection) × Adds xs before mid × Adds ys mid after
  adds_cut [] ys before after all = (before, refl, all)
  adds_cut (x ∷ xs) ys before after all =
      let rest = adds_cut xs ys all.0 after all.2 in
      (rest.0, (all.0, all.1, rest.1), rest.2)

  counted : (xs : List Exchanged) (before after : List Connection) → Adds xs before after
      → (cs : List Connection) × (after ≡ before ++ cs) × (length cs ≡ length xs)
  counted [] before after e = ([], e ∙ sym (append-nil before), refl)
  counted (x ∷ xs) before after all =
      let rest = counted xs all.0 after all.2 in
      let c = all.1.0 in (
        c ∷ rest.0,
        rest.1 ∙ ap (λ cs. cs ++ rest.0) all.1.1 ∙ append_assoc before (c ∷ []) rest.0,
        ap suc rest.2,
      )

  -- no exchange
  pub tells_no_exchange : (told : Option (List Connection)) → Tells told told (Adds [])
  tells_no_exchange told = tells_none (Adds []) told (λ x. refl)

  -- some exchanges and then one more
  pub tells_one_more : (xs : List Exchanged) (x : Exchanged) (first mid last : Option (List Connection)) → Tells first mid (Adds xs)
      → Tells mid last (AddsExchange target x.request head_only x.outcome) → Tells first last (Adds (xs ++ x ∷ []))
  tells_one_more xs x first mid last p q =
      tells_both (Adds xs) (AddsExchange target x.request head_only x.outcome) (Adds (xs ++ x ∷ [])) first mid last p q (λ a b c h k. adds_more xs (x ∷ []) a b c h (c, k, refl))

  -- some exchanges and then others
  pub tells_exchanges_both : (xs ys : List Exchanged) (first mid last : Option (List Connection)) → Tells first mid (Adds xs) → Tells mid last (Adds ys)
      → Tells first last (Adds (xs ++ ys))
  tells_exchanges_both xs ys first mid last p q = tells_both (Adds xs) (Adds ys) (Adds (xs ++ ys)) first mid last p q (λ a b c. adds_more xs ys a b c)

pub exchanges_join : ExchangesJoin
exchanges_join target head_only xs ys before after = (
  adds_cut target head_only xs ys before after,
  λ parts. adds_more target head_only xs ys before parts.0 after parts.1 parts.2,
)

pub exchanges_are_counted : ExchangesAreCounted
exchanges_are_counted target head_only xs before after = counted target head_only xs before after
