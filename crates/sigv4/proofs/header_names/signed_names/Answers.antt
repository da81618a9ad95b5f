use Rattle.std.proofs.Common.{◌++◌, ◌∷◌, [], take, sym, ap, ◌∙◌}
use Rattle.std.proofs.lemmas.List.{take_more, take_all, map_push}
use Rattle.sigv4.proofs.Listed.{listed_more}
use Rattle.sigv4.proofs.header_names.signed_names.Goals as goal

pub loop-name-preserved : goal.loop-name-preserved
loop-name-preserved c =
    let item = c.loop-name-item.result in
    let headers = c.args.headers.now in
    let index = c.loop-name.name-index in
    let next = take_more headers index item c.loop-name-test.true ∙ ap (λ h. take index headers ++ h ∷ []) (sym c.loop-name-item.is) in
    let added = rw c.in_ok-copy.ensures at c.in_ok-put_in_order.ensures.exact in
    record {
      ascending = c.in_ok-put_in_order.ensures.ascending;
      exact = λ other. rw (next, map_push (λ h. h.0) (take index headers) item) (listed_more _ _ _ _ c.loop-name.invariant.exact added other);
    }

pub returns : goal.returns
returns c =
    let all = take_all c.loop-name.name-index c.args.headers.now c.loop-name-test.false in
    let end = rw all at c.loop-name.invariant in
    rw c.from_vec.ensures (record { ascending = end.ascending; exact = end.exact })
