use Rattle.std.proofs.Common.{◌+◌, ◌∷◌, map, drop, refl, sym, ap, subst, ◌∙◌}
use Rattle.std.proofs.lemmas.List.{get_or_read}
use Rattle.json_doc.specs.Grammar.{put_all}
use Rattle.value_texts.specs.Documents.{field, document_of}
use Rattle.value_texts.specs.Slots.{slot_of_member}
use Rattle.value_texts.specs.Inside.{AreSpots, spot_of, spot_field, no_field}
use Rattle.value_texts.proofs.SpotTables.{put-within, put-next, named_in, named-there}
use Rattle.value_texts.proofs.fields.member_spots.Goals as goal

pub loop-at-preserved : goal.loop-at-preserved
loop-at-preserved c =
    let members = c.args.members.now in
    let fields = c.args.fields.now in
    let spots = c.loop-at.spots in
    let at = c.loop-at.at in
    let p = c.index-fields-at.result in
    let m = c.in-Some.member.now in
    let spot = spot_of at m in
    let made = c.in_ok-put_spot.ensures in
    let read = get_or_read fields at p c.loop-at-test.true c.index-fields-at.is no_field in
    record {
      within = subst (AreSpots fields) (sym made) (put-within fields spots m.wire spot c.loop-at.invariant.within c.loop-at-test.true);
      values = λ shapes.
          let rest = named_in shapes members (drop (at + 1) fields) in
          let due = named-there shapes members fields at p c.loop-at-test.true c.index-fields-at.is m c.in-Some.ensures
          ∙ ap (λ q. field m.wire (document_of shapes q.value (slot_of_member m)) ∷ rest) read in
          put-next shapes fields spots c.put_spot.new.spots m spot made refl rest _
          (ap (put_all (map (spot_field shapes fields) spots)) (sym due) ∙ c.loop-at.invariant.values shapes);
    }
