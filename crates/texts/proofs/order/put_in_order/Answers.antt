use Rattle.std.proofs.Common.{◌≡◌, inl, inr, ⊎_elim, sym, subst}
use Rattle.std.specs.Prelude.{Contains}
use Rattle.texts.proofs.Ascending.{ascending_insert, insert_cases, insert_keeps, insert_has}
use Rattle.texts.proofs.order.put_in_order.Goals as goal

pub returns-clause-ascending : goal.returns-clause-ascending
returns-clause-ascending c =
    let within = rw c.as_slice.ensures.value at c.in-Some.ensures.within in
    let above = rw c.as_slice.ensures.value at c.in-Some.ensures.above in
    let below = rw c.as_slice.ensures.value at c.in-Some.ensures.below in
    rw c.in_ok-insert.ensures.items (ascending_insert _ c.in-Some.at c.args.text c.requires within above below)

pub returns-clause-exact : goal.returns-clause-exact
returns-clause-exact c other =
    let texts = c.args.texts.now.items in
    let text = c.args.text in
    rw c.in_ok-insert.ensures.items (
      λ h. ⊎_elim (λ l. inl l) (λ (e : text ≡ other). inr (sym e)) (insert_cases texts c.in-Some.at text other h),
      λ h. ⊎_elim (λ (l : Contains texts other). insert_keeps texts c.in-Some.at text other l) (λ (e : other ≡ text). subst (Contains _) (sym e) (insert_has texts c.in-Some.at text)) h,
    )
