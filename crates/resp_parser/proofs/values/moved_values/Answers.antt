use Rattle.std.proofs.Common.{◌≡◌, ◌∷◌, ◌++◌, [], sym, ap, subst, ◌∙◌, append_assoc, rules}
use Rattle.std.specs.Vec.Iter.{into_iter_items}
use Rattle.texts.specs.Keys.{keys, IsDistinct}
use Rattle.resp_parser.specs.Inside.{put_at}
use Rattle.resp_parser.proofs.Keyed.{new-front}
use Rattle.resp_parser.proofs.Wires.{values-put}
use Rattle.resp_parser.proofs.values.moved_values.Goals as goal

pub loop-key-preserved : goal.loop-key-preserved
loop-key-preserved c =
    let front = c.loop-key.yielded in
    let p = c.in-Some.field-0 in
    let rest = into_iter_items c.next.new.self in
    let whole : front ++ p ∷ rest ≡ c.args.fields.items = ap (λ xs. front ++ xs) (sym c.in-Some.ensures.steps.0) ∙ c.loop-key.invariant.whole in
    let new = new-front front p rest (subst (λ ps. IsDistinct (keys ps)) (sym whole) c.requires.keys) in
    let put = values-put c.args.members.now front p c.find_member-place.result c.find_member-place.ensures.found c.find_member-place.ensures.none c.requires.wires new in
    record {
      next = tt;
      finite = tt;
      whole = append_assoc front (p ∷ []) rest ∙ whole;
      values = c.put_at.ensures ∙ ap (put_at c.find_member-place.result p.value) c.loop-key.invariant.values ∙ put;
    }
