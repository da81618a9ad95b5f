use Rattle.std.proofs.Common.{◌≡◌, List, [], map, drop}
use Rattle.json_doc.specs.Grammar.{put_all}
use Rattle.service_model.specs.declared.shape.Shape.{Shape}
use Rattle.value_texts.specs.Inside.{AreSpots, spot_field}
use Rattle.value_texts.proofs.SpotTables.{given_in}
use Rattle.value_texts.proofs.fields.given_spots.Given as goal

-- the places so far with the members that are due give all of the fields
abbrev pub invariant-loop-member : goal.invariant-loop-member
invariant-loop-member l = record {
  within : AreSpots l.fields l.spots;
  values : (shapes : List Shape) → put_all (map (spot_field shapes l.fields) l.spots) (given_in shapes l.is_json l.fields (drop l.member-index l.members))
      ≡ put_all [] (given_in shapes l.is_json l.fields l.members);
}
