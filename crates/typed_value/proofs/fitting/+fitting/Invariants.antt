use Rattle.std.proofs.Common.{◌≡◌, ◌+◌, ◌*◌, ◌≤◌, true, Some, map, length, take, drop}
use Rattle.std.specs.List.{list_all}
use Rattle.typed_value.specs.Fits.{item_fits, member_fits, fits_where}
use Rattle.typed_value.specs.Places.{member_named}
use Rattle.typed_value.specs.Tables.{AreNodes}
use Rattle.typed_value.proofs.fitting.+fitting.Given as goal

abbrev pub decreases-fits : goal.decreases-fits
decreases-fits l = 4 * length l.nodes.now

abbrev pub decreases-inside_fits : goal.decreases-inside_fits
decreases-inside_fits l = 4 * length l.below.now + 3

abbrev pub decreases-fields_fit : goal.decreases-fields_fit
decreases-fields_fit l = 4 * length l.below.now + 2

abbrev pub decreases-items_fit : goal.decreases-items_fit
decreases-items_fit l = 4 * length l.below.now + 1

abbrev pub decreases-entries_fit : goal.decreases-entries_fit
decreases-entries_fit l = 4 * length l.below.now + 1

abbrev pub decreases-members_fit : goal.decreases-members_fit
decreases-members_fit l = 4 * length l.below.now + 1

abbrev pub invariant-items_fit-loop-index : goal.invariant-items_fit-loop-index
invariant-items_fit-loop-index l = record {
  within : l.start ≤ length l.below;
  nodes : AreNodes (drop l.start l.below) (drop l._index l.items);
  passed : list_all (λ v. item_fits (Some l.item) (fits_where l.model.shapes v)) (take l._index l.items) ≡ true;
}

abbrev pub invariant-entries_fit-loop-index : goal.invariant-entries_fit-loop-index
invariant-entries_fit-loop-index l = record {
  within : l.start ≤ length l.below;
  nodes : AreNodes (drop l.start l.below) (drop l._index (map (λ p. p.value) l.fields));
  passed : list_all (λ p. item_fits (Some l.item) (fits_where l.model.shapes p.value)) (take l._index l.fields) ≡ true;
}

abbrev pub invariant-members_fit-loop-field : goal.invariant-members_fit-loop-field
invariant-members_fit-loop-field l = record {
  within : l.start ≤ length l.below;
  nodes : AreNodes (drop l.start l.below) (drop l.field-index (map (λ p. p.value) l.fields));
  passed : list_all (λ p. member_fits (member_named p.key l.shape.members) (fits_where l.model.shapes p.value)) (take l.field-index l.fields) ≡ true;
}
