use Rattle.std.proofs.Common.{◌≡◌, ◌&&◌, drop}
use Rattle.std.specs.List.{list_any}
use Rattle.std.specs.Str.{bytes_eq}
use Rattle.service_model.specs.Admission.{kind_of, is_blob}
use Rattle.service_model.proofs.admission.has_blob.Given as goal

abbrev pub invariant-loop-member : goal.invariant-loop-member
invariant-loop-member l =
    list_any (λ m. bytes_eq m.name l.name && is_blob (kind_of l.shapes m.shape)) (drop l.member-index l.members)
    ≡ list_any (λ m. bytes_eq m.name l.name && is_blob (kind_of l.shapes m.shape)) l.fn.members
