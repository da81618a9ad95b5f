use Rattle.std.proofs.Common.{◌≡◌, List, [], map, drop}
use Rattle.json_doc.specs.Grammar.{put_all}
use Rattle.service_model.specs.declared.shape.Shape.{Shape}
use Rattle.value_texts.specs.Inside.{AreSpots, spot_field}
use Rattle.value_texts.proofs.SpotTables.{named_in}
use Rattle.value_texts.proofs.fields.member_spots.Given as goal

-- the places so far with the fields that are due give all of the fields
abbrev pub invariant-loop-at : goal.invariant-loop-at
invariant-loop-at l = record {
  within : AreSpots l.fields l.spots;
  values : (shapes : List Shape) → put_all (map (spot_field shapes l.fields) l.spots) (named_in shapes l.members (drop l.at l.fields))
      ≡ put_all [] (named_in shapes l.members l.fields);
}
