use Rattle.std.proofs.Common.{◌+◌, map, get_or, drop, refl, sym, ap, subst, ◌∙◌}
use Rattle.json_doc.specs.Grammar.{put_all}
use Rattle.value_texts.specs.Inside.{AreSpots, spot_of, spot_field, no_field}
use Rattle.value_texts.proofs.SpotTables.{put-within, put-next, given_in, given-there}
use Rattle.value_texts.proofs.fields.given_spots.Goals as goal

pub loop-member-preserved : goal.loop-member-preserved
loop-member-preserved c =
    let is_json = c.args.is_json in
    let members = c.args.members.now in
    let fields = c.args.fields.now in
    let spots = c.loop-member.spots in
    let i = c.loop-member.member-index in
    let m = c.member-item.result in
    let spot = spot_of c.in-Some.at m in
    let made = c.in_ok-put_spot.ensures in
    let inside = sym c.is_in_body.ensures ∙ c.if-not-is_in_body.false in
    record {
      within = subst (AreSpots fields) (sym made) (put-within fields spots m.wire spot c.loop-member.invariant.within c.in-Some.ensures.within);
      values = λ shapes.
          let due = given-there shapes is_json fields members i m c.loop-member-test.true c.member-item.is (get_or fields c.in-Some.at no_field).value inside c.in-Some.ensures.there in
          put-next shapes fields spots c.put_spot.new.spots m spot made refl (given_in shapes is_json fields (drop (i + 1) members)) _
          (ap (put_all (map (spot_field shapes fields) spots)) (sym due) ∙ c.loop-member.invariant.values shapes);
    }
