use Rattle.std.proofs.Common.{◌≡◌, Some, length, refl, sym, subst, ◌∙◌}
use Rattle.std.specs.List.{slice_get}
use Rattle.std.proofs.lemmas.Option.{slice_get_read}
use Rattle.std.proofs.lemmas.Slice.Eq.{bytes_eq-Decides}
use Rattle.texts.specs.Keys.{value_at}
use Rattle.texts.proofs.KeyPlaces.{value_at-place}
use Rattle.jmes_eval.proofs.equality.value_there.Goals as goal

pub returns-then-eq : goal.returns-then-eq
returns-then-eq c =
    let items = c.as_slice.result.now in
    let found = c.in-Some.field.now in
    let lookup = c.in-Some.ensures.lookup in
    let there : slice_get items c.args.at ≡ Some found = slice_get_read items (length items) c.args.at found refl lookup.3.0 lookup.1 in
    let place : slice_get c.args.fields.now c.args.at ≡ Some found = subst (λ ps. slice_get ps c.args.at ≡ Some found) c.as_slice.ensures.same there in
    let value : value_at found.key c.args.fields.now ≡ Some found.value = value_at-place c.args.fields.now c.args.at found c.as_slice.ensures.distinct place in
    let same : found.key ≡ c.args.key.now = (bytes_eq-Decides found.key c.args.key.now).0 (sym c.eq.ensures ∙ c.if-eq.true) in
    subst (λ k. value_at k c.args.fields.now ≡ Some found.value) same value
