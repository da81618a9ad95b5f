use Rattle.std.proofs.Common.{◌≡◌, ◌||◌, ℕ, List, drop}
use Rattle.std.specs.List.{list_any}
use Rattle.std.specs.Str.{bytes_eq}
use Rattle.service_model.specs.Operations.{is_labelled}
use Rattle.service_model.proofs.labelled.label_names.Given as goal

-- a name is among those so far or labelled by what is left if and only if it is labelled by all
abbrev pub invariant-loop-member : goal.invariant-loop-member
invariant-loop-member l = (name : List ℕ) →
    (list_any (bytes_eq name) l.names.keys || list_any (is_labelled l.place name) (drop l.member-index l.members)) ≡ list_any (is_labelled l.place name) l.fn.members
